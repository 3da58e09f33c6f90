-- `evaluate::nodes::Asking::value_at` meets its contract. Assumes nothing.
use Prim.Native.Nat.{ℕ, ◌+◌, ◌-◌}
use mathlib.Core.Path.{◌≡◌, sym, ap, ◌∙◌}
use mathlib.Core.List.{List, ◌++◌}
use native.Mathlib.Omega.{arith}
use lib.ListN.{length, get_or}
use lib.Seq.{get_or-take, take-append_seam, get_or-append-add}
use Rattle.evaluate.proofs.nodes.Asking.value_at.Goals as goal

pub returns-then-place-self : goal.returns-then-place-self
returns-then-place-self c =
    let a = c.args in
    let vs = a.self.now.values.now in
    ap (λ (l : List ℕ). get_or l a.place 0) (sym (take-append_seam vs a.self.now.query.now)) ∙ get_or-take (length vs) (vs ++ a.self.now.query.now) a.place 0 c.if-place-self.true

pub returns : goal.returns
returns c =
    let a = c.args in
    let vs = a.self.now.values.now in
    let e : length vs + (a.place - length vs) ≡ a.place = omega (arith, c.if-place-self.false) in
    sym (get_or-append-add vs a.self.now.query.now (a.place - length vs) 0) ∙ ap (λ (k : ℕ). get_or (vs ++ a.self.now.query.now) k 0) e
