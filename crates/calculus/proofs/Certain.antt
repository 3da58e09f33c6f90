-- What a true or a false verdict means, and what runs A and B share. Assumes nothing.
use Prim.Native.Nat.{ℕ, ◌-◌}
use mathlib.Core.Path.{◌≡◌, refl, sym, ap, ◌∙◌}
use mathlib.Core.Bool.{Bool, true, false}
use mathlib.Core.List.{List, ◌++◌, map}
use lib.ListN.{length, replicate}
use Rattle.calculus.specs.declared.truth.Truth.{Truth}
use Rattle.calculus.specs.Cell.{is_constant, is_cell, all_constant}
use Rattle.calculus.specs.Row.{cells_of}
use Rattle.calculus.specs.Formula.{Query, inked, inked_query, assignment, variables}
use Rattle.calculus.specs.Domain.{range_over}
use Rattle.calculus.specs.Unify.{Valuation, under}
use Rattle.calculus.specs.Order.{◌⊑◌, unknown, alike, ◌⊑ₒ◌, of_bool}
use Rattle.calculus.specs.Model.{Fill, Model, run, outcome_of, says_yes, complete, valued, Shared}
use Rattle.calculus.proofs.Bools.{and_parts, and_intro, zero_not_one}
use Rattle.calculus.proofs.Rows.{cells-map}
use Rattle.calculus.proofs.Valuations.{under_keeps, under-constant}
use Rattle.calculus.proofs.Constants.{constant-distinct}
use Rattle.calculus.proofs.Agreement.{two_valued}
use Rattle.calculus.proofs.Fills.{mapped_kept, fills-kept}
use Rattle.calculus.proofs.All.{all_map, all_always, all_append, all_replicate}

-- ---- constants of rows and candidate

valued-constant : (v : Valuation) (cs : List ℕ) → all_constant (map (under v) cs) ≡ true
valued-constant v cs = all_map is_constant (under v) (λ c. true) (λ c t. under-constant v c) cs (all_always (λ c. true) (λ c. refl) cs)

-- without nulls, the verdict is that of two-valued logic
pub complete-verdict : (b : Model) (f : Query) → inked_query f ≡ true → complete b ≡ true → (outcome_of b f).truth ≡ of_bool (says_yes b f)
complete-verdict b f k p =
    let c = and_parts (all_constant (cells_of b.rows)) (all_constant b.candidate) p in
    let i = and_parts (inked f.formula) (all_constant f.named) k in
    two_valued (range_over f.named b.rows)
    (constant-distinct (cells_of b.rows ++ f.named) (all_append is_constant (cells_of b.rows) f.named c.0 i.1)) b.rows c.0 f.formula i.0
    (assignment b.candidate)
    (all_append is_constant b.candidate (replicate (variables - length b.candidate) 0) c.1 (all_replicate is_constant (variables - length b.candidate) 0 refl))

-- ---- every valuation

pub valued-complete : (v : Valuation) (b : Model) → complete (valued v b) ≡ true
valued-complete v b =
    and_intro
    (ap all_constant (cells-map (under v) b.rows) ∙ valued-constant v (cells_of b.rows))
    (valued-constant v b.candidate)

constant_cell : (c : ℕ) → is_constant c ≡ true → is_cell c ≡ true
unfolding is_cell
constant_cell c k = rw k

-- every valuation of all nulls keeps a true or false verdict
pub valuation-kept : (v : Valuation) (b : Model) (f : Query) → inked_query f ≡ true → outcome_of b f ⊑ₒ outcome_of (valued v b) f
valuation-kept v b f k =
    mapped_kept {b = b} {b' = valued v b}
    (record { by = under v; keeps = under_keeps v; cells = λ c h. constant_cell (under v c) (under-constant v c); rows = refl; candidate = refl })
    f k

settled : {a b : Truth} (t : Bool) → a ⊑ b → a ≡ of_bool t → b ≡ of_bool t
settled true unknown e = let z : ◌≡◌ {A = ℕ} 0 1 = cc in absurd (zero_not_one z)
settled false unknown e = let z : ◌≡◌ {A = ℕ} 0 1 = cc in absurd (zero_not_one z)
settled t alike e = e

of_bool_lem : (a b : Bool) → of_bool a ≡ of_bool b → a ≡ b
of_bool_lem true true e = refl
of_bool_lem true false e = let z : ◌≡◌ {A = Bool} true false = cc in z
of_bool_lem false true e = let z : ◌≡◌ {A = Bool} false true = cc in z
of_bool_lem false false e = refl

-- if the verdict is true, two-valued logic says yes under every valuation; if it is false, no
pub certain :
    (v : Valuation) (b : Model) (f : Query) (t : Bool) → inked_query f ≡ true → (outcome_of b f).truth ≡ of_bool t → says_yes (valued v b) f ≡ t
certain v b f t k e =
    of_bool_lem (says_yes (valued v b) f) t
    (sym (complete-verdict (valued v b) f k (valued-complete v b)) ∙ settled t (valuation-kept v b f k).truth e)

-- ---- runs A and B

pub runs_share : (fs : List Fill) (b : Model) (f : Query) → inked_query f ≡ true → Shared fs b f
runs_share fs b f k = record { kept = fills-kept fs b f k; two_valued = complete-verdict (run fs b) f k }

-- if A's verdict is true or false, B's is the same
pub verdict-kept : (fs : List Fill) (b : Model) (f : Query) (t : Bool) → inked_query f ≡ true → (outcome_of b f).truth ≡ of_bool t → (outcome_of (run fs b) f).truth ≡ of_bool t
verdict-kept fs b f t k e = settled t (fills-kept fs b f k).truth e
