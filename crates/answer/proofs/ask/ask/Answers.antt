-- `answer::ask::ask` meets its contract: if nothing is refused, the values are listed and the top node is evaluated.
-- Assumes nothing.
use Prim.Native.Nat.{ℕ, ◌+◌, ◌-◌, ◌≤◌}
use mathlib.Core.Path.{◌≡◌, sym, ◌∙◌}
use mathlib.Core.List.{List}
use native.Mathlib.Omega.{arith}
use borrow.Author.Rules.{rules}
use lib.ListN.{length, length-append}
use Rattle.std.specs.Prelude.{Err}
use Rattle.std.proofs.lemmas.Result.{err_from_is_err_and}
use Rattle.calculus.specs.declared.refusal.Refusal.{Refusal}
use Rattle.calculus.specs.Model.{outcome_of}
use Rattle.calculus.specs.Row.{cells_of}
use Rattle.instance.specs.Header.{max_relations}
use Rattle.instance.specs.declared.header.Header.{Header}
use Rattle.instance.specs.Run.{model_of}
use Rattle.instance.specs.Sound.{rows}
use Rattle.instance.proofs.Sound.{Sound, sound_gives}
use Rattle.query.specs.Named.{named_in, query_of, HasTerms}
use Rattle.answer.specs.Ask.{needed, most_needed, askable, ask, asked_buffer, list}
use Rattle.answer.specs.Admitted.{Admitted}
use Rattle.answer.specs.Numbers.{TellsVerdict}
use Rattle.answer.specs.Asked.{Asked}
use Rattle.answer.proofs.Admitted.{admitted_done}
use Rattle.answer.proofs.AskLaws.{admitted-refused, refused-asked, refused-buffer, evaluated-asked, evaluated_buffer, short-list, long-list, has_terms, listed_part}
use Rattle.answer.proofs.Need.{cells_count, need_few}
use Rattle.answer.proofs.Told.{ask-told}
use Rattle.answer.proofs.ask.ask.Goals as goal
use Rattle.answer.proofs.ask.ask.Goals.{In_ok-rows, After-count_named, Else-buffer-cells, After-list_range-n}

-- a refusal or a verdict, in the paper's numbers too
module _ (h : Header) (ws qs cs lent : List ℕ) (budget : ℕ) where
  told :
      {r : Asked} {left : List ℕ} → r ≡ ask h ws qs cs (list lent) budget → left ≡ asked_buffer h ws qs cs lent → record {
        answer : r ≡ ask h ws qs cs (list lent) budget;
        buffer : left ≡ asked_buffer h ws qs cs lent;
        told : TellsVerdict r (ask h ws qs cs (list lent) budget) (outcome_of (model_of h ws cs) (query_of h.arities qs));
      }
  told p q = record { answer = p; buffer = q; told = ask-told h ws qs cs (list lent) budget p }

  refused-told : (r : Refusal) → askable h ws qs cs (list lent) ≡ Err r → record {
    answer : Err r ≡ ask h ws qs cs (list lent) budget;
    buffer : lent ≡ asked_buffer h ws qs cs lent;
    told : TellsVerdict (Err r) (ask h ws qs cs (list lent) budget) (outcome_of (model_of h ws cs) (query_of h.arities qs));
  }
  refused-told r e = told (refused-asked h ws qs cs (list lent) budget r e) (refused-buffer h ws qs cs lent r e)

-- the question is admitted
module _ (c : In_ok-rows) where
  abbrev h : Header
  h = c.args.header

  abbrev ws : List ℕ
  ws = c.args.instance.now

  abbrev qs : List ℕ
  qs = c.args.query.now

  abbrev cs : List ℕ
  cs = c.args.candidate.now

  abbrev buffer : List ℕ
  buffer = c.args.buffer.now

  passes : Admitted h ws qs cs c.in_ok-rows.rows
  passes = admitted_done _ _ _ _ _ (sym c.admit.ensures ∙ c.in_ok-rows.was)

  given : Sound h ws
  given = sound_gives h ws passes.is_sound

  terms : HasTerms h.arities qs
  terms = let eight : length h.arities ≡ max_relations = search rules in has_terms h ws qs cs c.in_ok-rows.rows passes eight

  cells : h.used ≡ c.in_ok-rows.rows + length (cells_of (rows h ws))
  cells = omega (arith, cells_count h ws passes.is_sound, passes.counted)

  few : length (needed h ws qs) ≤ most_needed
  few = need_few h ws qs cs c.in_ok-rows.rows passes

-- the need of the list: cells and inked terms
module _ (c : After-count_named) where
  abbrev at : In_ok-rows
  at = (goal.at.overflow_add-cells c).In_ok-rows

  need : c.args.header.used - c.in_ok-rows.rows + c.count_named.result ≡ length (needed c.args.header c.args.instance.now c.args.query.now)
  need =
      omega (
        arith,
        cells at,
        c.count_named.ensures,
        length-append (cells_of (rows (h at) (ws at))) (named_in (h at).arities (qs at)),
      )

pub returns-in_err-rows : goal.returns-in_err-rows
returns-in_err-rows c =
    let p = err_from_is_err_and c.from_residual.result c.from_residual.ensures.1 in
    rw (p.1, p.2)
    (refused-told _ _ _ _ _ _ _ (admitted-refused _ _ _ _ (list c.args.buffer.now) _ (sym c.admit.ensures ∙ c.in_err-rows.was)))

pub overflow_sub-cells : goal.overflow_sub-cells
overflow_sub-cells c = omega (arith, cells c)

pub invariant_of-terms : goal.invariant_of-terms
invariant_of-terms c = record { has_terms = terms (goal.at.invariant_of-terms c).In_ok-rows }

pub overflow_add-cells : goal.overflow_add-cells
overflow_add-cells c = omega (arith, need c, few (at c))

pub returns-then-buffer-cells : goal.returns-then-buffer-cells
returns-then-buffer-cells c =
    let b = (goal.at.returns-then-buffer-cells c).In_ok-rows in
    let n = (goal.at.returns-then-buffer-cells c).After-count_named in
    refused-told _ _ _ _ _ _ _
    (short-list (h b) (ws b) (qs b) (cs b) (buffer b) _ (passes b) (omega (arith, need n, c.if-buffer-cells.true)))

-- the list is long enough
module _ (c : Else-buffer-cells) where
  abbrev so_far : In_ok-rows
  so_far = (goal.at.slice_bounds-list_range-end c).In_ok-rows

  long : length (needed (h so_far) (ws so_far) (qs so_far)) ≤ length (buffer so_far)
  long = omega (arith, need (goal.at.slice_bounds-list_range-end c).After-count_named, c.if-buffer-cells.false)

pub slice_bounds-list_range-end : goal.slice_bounds-list_range-end
slice_bounds-list_range-end c = sym (given (goal.at.slice_bounds-list_range-end c).In_ok-rows).in_use

pub list_range-n-requires : goal.list_range-n-requires
unfolding rows
list_range-n-requires c =
    let t = (goal.at.list_range-n-requires c).Else-buffer-cells in
    let f = so_far t in record {
      instance_of = record { relations = (h f).relations; well_formed = (given f).well_formed };
      query_in_bounds = long t;
      query_len_bound = omega (arith, few f);
    }

pub slice_bounds-answer_listed-end : goal.slice_bounds-answer_listed-end
slice_bounds-answer_listed-end c = (listed_part _ _ _ _ c.list_range-n.ensures.number c.list_range-n.ensures.values).0

pub answer_listed-requires : goal.answer_listed-requires
unfolding rows
answer_listed-requires c = record {
  by_index = (_, passes (goal.at.answer_listed-requires c).In_ok-rows);
  values_value = (listed_part _ _ _ _ c.list_range-n.ensures.number c.list_range-n.ensures.values).1;
}

pub returns : goal.returns
unfolding rows
returns c =
    let t = (goal.at.returns c).Else-buffer-cells in
    let f = so_far t in
    let asks = long-list _ _ _ _ _ _ (passes f) (long t) in
    told _ _ _ _ _ _ (c.answer_listed.ensures ∙ evaluated-asked _ _ _ _ _ _ asks) (c.list_range-n.ensures.values ∙ evaluated_buffer _ _ _ _ _ asks)
