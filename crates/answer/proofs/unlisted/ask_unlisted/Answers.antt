-- `answer::unlisted::ask_unlisted` meets its contract: if nothing is refused, what is no new value is passed over, and the top node is evaluated.
-- Assumes nothing.
use Prim.Native.Nat.{ℕ, ◌≤◌}
use native.Mathlib.Omega.{arith}
use mathlib.Core.Path.{◌≡◌, sym, ap, ◌∙◌}
use mathlib.Core.List.{List}
use borrow.Author.Rules.{rules}
use lib.ListN.{length}
use Rattle.std.proofs.lemmas.Result.{err_from_is_err_and}
use Rattle.std.specs.Prelude.{Ok, Err}
use Rattle.calculus.specs.Answer.{value_of}
use Rattle.calculus.specs.Model.{outcome_of}
use Rattle.instance.specs.declared.header.Header.{Header}
use Rattle.instance.specs.Header.{max_relations}
use Rattle.instance.specs.Run.{model_of}
use Rattle.instance.proofs.Sound.{Sound, sound_gives}
use Rattle.query.specs.Named.{query_of}
use Rattle.query.proofs.Passed.{count-within}
use Rattle.known.specs.declared.Known.{Known}
use Rattle.known.specs.Known.{max_query_words}
use Rattle.known.proofs.Walking.{no_flags}
use Rattle.answer.specs.Ask.{ask, none}
use Rattle.answer.specs.Admitted.{Admitted}
use Rattle.answer.specs.Numbers.{TellsVerdict}
use Rattle.answer.specs.Asked.{Asked}
use Rattle.answer.proofs.Admitted.{admitted_done}
use Rattle.answer.proofs.AskLaws.{admitted-refused, refused-asked, evaluated-asked, no_list}
use Rattle.answer.proofs.AskLaws.{Described, described, described-kept, evaluable, walked-ranged, evaluated-top, has_terms}
use Rattle.answer.proofs.Told.{ask-told}
use Rattle.answer.proofs.unlisted.ask_unlisted.Goals as goal
use Rattle.answer.proofs.unlisted.ask_unlisted.Goals.{In_ok-admit, After-known-1, After-asking-1}

-- a refusal or a verdict, in the paper's numbers too
told :
    (h : Header) (ws qs cs : List ℕ) (budget : ℕ) {r : Asked} → r ≡ ask h ws qs cs none budget →
    record { answer : r ≡ ask h ws qs cs none budget; told : TellsVerdict r (ask h ws qs cs none budget) (outcome_of (model_of h ws cs) (query_of h.arities qs)) }
told h ws qs cs budget p = record { answer = p; told = ask-told h ws qs cs none budget p }

-- the question is admitted
module _ (c : In_ok-admit) where
  abbrev count : ℕ
  count = value_of c.admit.result 0

  passes : Admitted c.args.header c.args.instance.now c.args.query.now c.args.candidate.now count
  passes =
      let was : c.admit.result ≡ Ok count = grind arith in
      admitted_done _ _ _ _ _ (sym c.admit.ensures ∙ was)

  abbrev given : Sound c.args.header c.args.instance.now
  given = sound_gives c.args.header c.args.instance.now passes.is_sound

  words : length c.args.query.now ≤ max_query_words
  words = let n = count-within c.args.query.now passes.right in omega (arith, n.1, n.2)

  described-by : (k : Known) → k.counts ≡ c.args.header.counts → k.arities ≡ c.args.header.arities → Described c.args.header c.args.instance.now k
  described-by k = described c.args.header c.args.instance.now k passes.is_sound

-- what is known at first
module _ (c : After-known-1) where
  abbrev known : Known
  known = c.new-known.result

  at-first : Described c.args.header c.args.instance.now known
  at-first = described-by (goal.at.pass_for-requires c).In_ok-admit known (ap (λ (k : Known). k.counts) c.new-known.ensures) (ap (λ (k : Known). k.arities) c.new-known.ensures)

-- after the flags were set
still : (c : After-asking-1) → Described c.args.header c.args.instance.now c.pass_for.new.known
still c = described-kept _ _ _ _ (at-first (goal.at.answer_top-requires c).After-known-1) c.pass_for.ensures.kept

pub returns-in_err-admit : goal.returns-in_err-admit
returns-in_err-admit c =
    let p = err_from_is_err_and c.from_residual.result c.from_residual.ensures.1 in
    let was : c.admit.result ≡ Err c.in_err-admit.field-0.0 = grind arith in
    rw (p.1, p.2)
    (told _ _ _ _ _
    (refused-asked _ _ _ _ none _ _ (admitted-refused _ _ _ _ none _ (sym c.admit.ensures ∙ was))))

pub slice_bounds-words-end : goal.slice_bounds-words-end
slice_bounds-words-end c = sym (given c).in_use

pub invariant_of-terms : goal.invariant_of-terms
invariant_of-terms c =
    let eight : length c.args.header.arities ≡ max_relations = search rules in
    record { has_terms = has_terms _ _ _ _ _ (passes (goal.at.invariant_of-terms c).In_ok-admit) eight }

pub pass_for-requires : goal.pass_for-requires
pass_for-requires c =
    let f = (goal.at.pass_for-requires c).In_ok-admit in
    let same = ap (λ (k : Known). k.arities) c.new-known.ensures in record {
      instance_of = (
        rw same (record { relations = c.args.header.relations; well_formed = (given f).well_formed }),
        same,
        words f,
      );
      no_flags = no_flags c.new-known.result (ap (λ (k : Known). k.flags) c.new-known.ensures);
    }

pub answer_top-requires : goal.answer_top-requires
answer_top-requires c =
    let f = (goal.at.answer_top-requires c).In_ok-admit in
    let places = c.pass_for.ensures.kept.places ∙ ap (λ (k : Known). k.places) c.new-known.ensures in
    let e = evaluable _ _ _ _ _ (passes f) c.pass_for.new.known _ (still c)
    (walked-ranged _ _ _ _ (passes f).is_sound places c.pass_for.ensures.walked)
    in record { ready = e.0; query_nonzero = e.1 }

pub returns : goal.returns
returns c =
    let f = (goal.at.returns c).In_ok-admit in
    told _ _ _ _ _
    (evaluated-top _ _ _ c.args.candidate.now c.args.budget _ (still (goal.at.returns c).After-asking-1) _ c.answer_top.ensures ∙
    evaluated-asked _ _ _ _ none _ (no_list _ _ _ _ _ (passes f)))
