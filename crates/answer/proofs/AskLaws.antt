-- The answer to a question for each of its refusals, and if there is none. Assumes nothing.
use Prim.Native.Nat.{ℕ, ◌+◌, ◌≤◌, ◌<◌}
use mathlib.Core.Path.{◌≡◌, refl, sym, ap, subst, ◌∙◌}
use mathlib.Core.Bool.{Bool, true, false}
use mathlib.Core.List.{List, ◌++◌}
use native.Mathlib.Omega.{arith}
use lib.ListN.{length, get_or, drop, take, length-append}
use lib.Seq.{take_at, take_all}
use borrow.Author.Tests.{le-leb, lt-leb}
use Rattle.calculus.specs.Answer.{Answer}
use Rattle.std.specs.Prelude.{Err}
use Rattle.calculus.specs.declared.refusal.Refusal.{Refusal}
use Rattle.calculus.specs.Answer.{after}
use Rattle.calculus.specs.declared.refusal.Refusal.TheVariants.{BufferTooShort}
use Rattle.calculus.specs.Domain.{range_over}
use Rattle.calculus.specs.Model.{outcome_of}
use Rattle.calculus.specs.Eval.{Outcome, eval}
use Rattle.calculus.specs.Kleene.{Junction}
use Rattle.calculus.specs.Formula.{assignment, variables}
use Rattle.instance.specs.declared.header.Header.{Header}
use Rattle.instance.specs.Header.{max_relations, max_words}
use Rattle.instance.specs.Rows.{rows_from}
use Rattle.instance.specs.Sound.{sound, rows}
use Rattle.instance.specs.Run.{model_of}
use Rattle.query.specs.Words.{node_count, word_at, kind_of, row_stands, ranges}
use Rattle.query.specs.Tree.{formula_of}
use Rattle.query.specs.Named.{named_in, query_of, HasTerms}
use Rattle.query.proofs.Passed.{few-cells, count-within, node-well_formed}
use Rattle.instance.specs.RowCounts.{row_counts}
use Rattle.instance.proofs.RowCounts.{row-count_at}
use Rattle.known.specs.declared.Known.{Known}
use Rattle.known.specs.Known.{arities_in, places_in, flag_at, unpassed, SameBesides}
use Rattle.known.proofs.Walking.{unpassed-all}
use Rattle.range.specs.Walked.{walked_range}
use Rattle.range.proofs.Walked.{walked_range_lem}
use Rattle.answer.specs.Asked.{Asked}
use Rattle.evaluate.specs.Within.{within}
use Rattle.evaluate.specs.Ready.{Ready, Ranged, world}
use Rattle.answer.specs.Ask.{evaluated_as, answered_by, admitted, Lent, list, none, needed, outcome_by, askable, ask, asked_buffer}
use Rattle.answer.specs.Admitted.{Admitted}
use Rattle.answer.specs.Ranging.{ranges_among}
use Rattle.answer.proofs.Ranging.{none-ranges}
use Rattle.answer.proofs.Admitted.{none-refused}
use Rattle.answer.proofs.Ways.{outcome_by_lem}
use Rattle.answer.proofs.RerunLaws.{Asks, askable_done}
use Rattle.calculus.specs.Overwrite.{overwrite}
use Rattle.instance.proofs.Sound.{sound_gives}

-- a question that is not admitted is refused by every way of asking
pub admitted-refused :
    (h : Header) (ws qs cs : List ℕ) (lent : Lent) (r : Refusal) → admitted h ws qs cs ≡ Err r → askable h ws qs cs lent ≡ Err r
unfolding askable
admitted-refused h ws qs cs lent r d = rw d refl

-- the answer to a question that is refused, and to one that is not
module _ (h : Header) (ws qs cs : List ℕ) (lent : Lent) (budget : ℕ) where
  pub refused-asked : (r : Refusal) → askable h ws qs cs lent ≡ Err r → Err r ≡ ask h ws qs cs lent budget
  unfolding ask
  refused-asked r e = sym (ap (λ (x : Answer). answered_by x (within budget (outcome_by lent (model_of h ws cs) (query_of h.arities qs)))) e)

  pub evaluated-asked :
      Asks h ws qs cs lent → evaluated_as (within budget (outcome_of (model_of h ws cs) (query_of h.arities qs))) ≡ ask h ws qs cs lent budget
  unfolding ask
  evaluated-asked a =
      sym
      (ap (λ (x : Answer). answered_by x (within budget (outcome_by lent (model_of h ws cs) (query_of h.arities qs)))) (askable_done h ws qs cs lent a) ∙
      ap (λ (o : Outcome). evaluated_as (within budget o)) (outcome_by_lem lent (model_of h ws cs) (query_of h.arities qs)))

-- the list that was lent
module _ (h : Header) (ws qs cs buffer : List ℕ) where
  pub refused-buffer : (r : Refusal) → askable h ws qs cs (list buffer) ≡ Err r → buffer ≡ asked_buffer h ws qs cs buffer
  unfolding asked_buffer
  refused-buffer r e = sym (ap (λ (x : Answer). after x (overwrite (range_over (named_in h.arities qs) (rows h ws)) buffer) buffer) e)

  pub evaluated_buffer : Asks h ws qs cs (list buffer) → overwrite (range_over (named_in h.arities qs) (rows h ws)) buffer ≡ asked_buffer h ws qs cs buffer
  unfolding asked_buffer
  evaluated_buffer a = sym (ap (λ (x : Answer). after x (overwrite (range_over (named_in h.arities qs) (rows h ws)) buffer) buffer) (askable_done h ws qs cs (list buffer) a))

  pub short-list :
      (count : ℕ) → Admitted h ws qs cs count → length buffer < length (needed h ws qs) →
      askable h ws qs cs (list buffer) ≡ Err BufferTooShort
  unfolding askable
  short-list count a short =
      rw (← none-refused h ws qs cs a.is_sound a.right a.scopes a.passes, lt-leb (length (needed h ws qs)) (length buffer) short) refl

  pub long-list : (count : ℕ) → Admitted h ws qs cs count → length (needed h ws qs) ≤ length buffer → Asks h ws qs cs (list buffer)
  long-list count a long = record { is_sound = a.is_sound; right = a.right; scopes = a.scopes; passes = a.passes; room = le-leb _ _ long }

pub no_list : (h : Header) (ws qs cs : List ℕ) (count : ℕ) → Admitted h ws qs cs count → Asks h ws qs cs none
no_list h ws qs cs count a = record { is_sound = a.is_sound; right = a.right; scopes = a.scopes; passes = a.passes; room = refl }

-- what is known holds an instance's row counts and arities
pub record Described (h : Header) (ws : List ℕ) (table : Known) : Type 0 where
  pub counts : table.counts ≡ row_counts (rows_from h.arities 0 (take h.used ws))
  pub arities : arities_in table ≡ h.arities

-- the header's counts are those of the rows
pub described :
    (h : Header) (ws : List ℕ) (table : Known) → sound h ws ≡ true → table.counts ≡ h.counts → table.arities ≡ h.arities →
    Described h ws table
unfolding rows
described h ws table is_sound counts arities = record {
  counts = counts ∙ (sound_gives h ws is_sound).counted;
  arities = arities;
}

-- a question that is admitted is ready to be evaluated
module _ (h : Header) (ws qs cs : List ℕ) (count : ℕ) (a : Admitted h ws qs cs count) where
  pub made-ready :
      (table : Known) → Described h ws table →
      Ready h.arities (take h.used ws) qs table × ((0 < node_count qs) × (length cs ≤ variables))
  made-ready table d =
      let rs = rows_from h.arities 0 (take h.used ws) in
      let g = sound_gives h ws a.is_sound in
      let within = count-within qs a.right in (
        record {
          given = record { relations = h.relations; well_formed = g.well_formed };
          whole = within.2;
          nodes_few = within.1;
          nodes = node-well_formed h.relations h.arities qs cs a.right a.scopes a.passes;
          counted = λ r l.
              let low : r < max_relations = omega (arith, l, g.headed.few) in
              ap (λ (z : List ℕ). get_or z r 0) d.counts ∙ row-count_at rs r low;
        },
        (within.0, omega (arith, few-cells h.relations h.arities qs cs a.right a.scopes a.passes)),
      )

  -- with the arities as the array has them
  pub evaluable :
      (table : Known) (values : List ℕ) → Described h ws table → Ranged h.arities (take h.used ws) qs table values →
      (Ready (arities_in table) (take h.used ws) qs table × Ranged (arities_in table) (take h.used ws) qs table values) ×
      ((0 < node_count qs) × (length cs ≤ variables))
  evaluable table values d ranged =
      let made = made-ready table d in
      subst (λ (ars : List ℕ). (Ready ars (take h.used ws) qs table × Ranged ars (take h.used ws) qs table values) × ((0 < node_count qs) × (length cs ≤ variables)))
      (sym d.arities) ((made.0, ranged), made.1)

-- it is still described if only flags were set
pub described-kept : (h : Header) (ws : List ℕ) (before table : Known) → Described h ws before → SameBesides before table → Described h ws table
described-kept h ws before table d kept = record { counts = kept.counts ∙ d.counts; arities = kept.arities ∙ d.arities }

-- what a pass over the question's terms may assume
pub has_terms : (h : Header) (ws qs cs : List ℕ) (count : ℕ) → Admitted h ws qs cs count → length h.arities ≡ max_relations → HasTerms h.arities qs
has_terms h ws qs cs count a eight =
    let g = sound_gives h ws a.is_sound in
    record {
      whole = (count-within qs a.right).2;
      eight = eight;
      narrow = g.headed.narrow;
      relations = λ i l is. omega (arith, named i l is, g.headed.few);
    }
  where
    named : (i : ℕ) → i < node_count qs → kind_of (word_at qs i 0) ≡ row_stands → word_at qs i 1 < h.relations
    named i l is = (rw is at (node-well_formed h.relations h.arities qs cs a.right a.scopes a.passes i l)).0

-- the instance's own words and then the question's; no flag is needed if no node ranges over values
pub walked-ranged :
    (h : Header) (ws qs : List ℕ) (table : Known) → sound h ws ≡ true → places_in table ≡ h.used + length qs →
    (ranges_among qs (node_count qs) ≡ true → unpassed table 0 (take h.used ws ++ qs) ≡ walked_range (named_in h.arities qs) (rows_from h.arities 0 (take h.used ws))) →
    Ranged h.arities (take h.used ws) qs table (take h.used ws)
walked-ranged h ws qs table e places walks =
    let g = sound_gives h ws e in
    record {
      short = omega (arith, g.in_use, g.few);
      places = omega (arith, places, g.in_use);
      walked = λ i j l kind.
          ap (unpassed table 0) (take_all (places_in table) (take h.used ws ++ qs) (omega (arith, places, g.in_use, length-append (take h.used ws) qs))) ∙
          go (ranges_among qs (node_count qs)) refl i j l kind;
    }
  where
    go :
        (b : Bool) → ranges_among qs (node_count qs) ≡ b → (i : ℕ) (j : Junction) → i < node_count qs → kind_of (word_at qs i 0) ≡ ranges j →
        unpassed table 0 (take h.used ws ++ qs) ≡ (world h.arities (take h.used ws) qs).range
    go true is i j l kind = walks is ∙ walked_range_lem (named_in h.arities qs) (rows_from h.arities 0 (take h.used ws))
    go false is i j l kind = absurd (none-ranges qs (node_count qs) is i j l kind)

-- a list of the range, with no flag
pub listed-ranged :
    (h : Header) (ws qs : List ℕ) (table : Known) (values : List ℕ) → places_in table ≡ length values → ((p : ℕ) → flag_at table p ≡ false) → length values ≤ max_words →
    values ≡ range_over (named_in h.arities qs) (rows_from h.arities 0 (take h.used ws)) → Ranged h.arities (take h.used ws) qs table values
listed-ranged h ws qs table values places unflagged few are =
    record {
      short = few;
      places = omega (arith, places);
      walked = λ i j k is. ap (unpassed table 0) (take_at values qs (places_in table) (sym places)) ∙ unpassed-all table unflagged 0 values ∙ are;
    }

-- the answer of the evaluation, with the arities as the array has them
pub evaluated-top :
    (h : Header) (ws qs cs : List ℕ) (budget : ℕ) (table : Known) → Described h ws table →
    (r : Asked) → r ≡ evaluated_as (within budget (eval (world (arities_in table) (take h.used ws) qs) (formula_of (arities_in table) qs) (assignment cs))) →
    r ≡ evaluated_as (within budget (outcome_of (model_of h ws cs) (query_of h.arities qs)))
unfolding rows
evaluated-top h ws qs cs budget table d r is =
    is ∙ ap (λ (ars : List ℕ). evaluated_as (within budget (eval (world ars (take h.used ws) qs) (formula_of ars qs) (assignment cs)))) d.arities

-- the values are the first words of the buffer that they were listed in
pub listed_part : (vs buffer left : List ℕ) (n : ℕ) → n ≡ length vs → left ≡ overwrite vs buffer → (n ≤ length left) × (take n left ≡ vs)
listed_part vs buffer left n long is =
    (omega (arith, long, ap length is, length-append vs (drop (length vs) buffer)), ap (take n) is ∙ take_at vs (drop (length vs) buffer) n (sym long))
