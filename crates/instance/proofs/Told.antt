-- What each call of an instance tells, in the paper's numbers, if its answer is the definition's. Assumes nothing.
use Prim.Native.Nat.{ℕ}
use mathlib.Core.Path.{◌≡◌, refl, ◌∙◌}
use mathlib.Core.Bool.{Bool, true, false}
use mathlib.Core.List.{List}
use lib.ListN.{length}
use lib.Dec.{leb}
use Rattle.calculus.specs.Answer.{Answer}
use Rattle.std.specs.Prelude.{Ok, Err}
use Rattle.calculus.specs.Answer.{Tells}
use Rattle.calculus.specs.Cell.{nulls}
use Rattle.calculus.specs.Fill.{Logging, held}
use Rattle.calculus.specs.declared.refusal.Refusal.TheVariants.{Unsound, OutputTooShort}
use Rattle.calculus.proofs.Answers.{demand_done, two_demands, tells}
use Rattle.instance.specs.declared.header.Header.{Header}
use Rattle.instance.specs.Sound.{sound, rows, tally, scanned, sound_answer}
use Rattle.instance.specs.Insert.{inserted, inserted_header}
use Rattle.instance.specs.Substitute.{substituted}
use Rattle.instance.specs.NullCounts.{counted}
use Rattle.instance.proofs.Accepted.{insert_accepted, substitute-accepted}
use Rattle.instance.proofs.Kept.{entered_used}
use Rattle.calculus.specs.Demand.{demand}

module _ (h : Header) (ws : List ℕ) where
  pub scan_told : {r : Answer} → r ≡ scanned h ws → (r ≡ scanned h ws) × Tells r (sound_answer h ws) (length (rows h ws))
  unfolding scanned
  scan_told e =
      let n = length (rows h ws) in
      (e, tells n (e ∙ is (sound h ws) n) (λ k d. let f : Ok n ≡ Ok k = (demand_done (sound h ws) Unsound (Ok n) k d).1 in cc))
    where
      is : (b : Bool) (n : ℕ) → tally b n ≡ demand b (Err Unsound) (Ok n)
      is true n = refl
      is false n = refl

  pub fill-told :
      (l : Logging) (m c : ℕ) {r : Answer} {P : Type 0} → (r ≡ substituted h ws l m c) × P →
      (r ≡ substituted h ws l m c) × (P × Tells r (substituted h ws l m c) (held m (rows h ws)))
  fill-told l m c p = (p.0, (p.1, tells (held m (rows h ws)) p.0 (λ k d. (substitute-accepted h ws l m c k d).count)))

  pub counts-told :
      (out : List ℕ) {r : Answer} {P : Type 0} → (r ≡ counted h ws out) × P → (r ≡ counted h ws out) × (P × Tells r (counted h ws out) nulls)
  unfolding counted
  counts-told out p = (p.0, (p.1, tells nulls p.0 (two_demands (sound h ws) (leb nulls (length out)) Unsound OutputTooShort nulls)))

  -- the value is the number of words in use in the header that is left
  pub insert-told :
      (r : ℕ) (cs : List ℕ) {a : Answer} {g : Header} {P : Type 0} →
      (a ≡ inserted h ws r cs) × ((g ≡ inserted_header h ws r cs) × P) →
      (a ≡ inserted h ws r cs) × ((g ≡ inserted_header h ws r cs) × (P × Tells a (inserted h ws r cs) (inserted_header h ws r cs).used))
  unfolding inserted_header
  insert-told r cs p = (
    p.0,
    (
      p.1.0,
      (
        p.1.1,
        tells (inserted_header h ws r cs).used p.0 (λ k d. rw d (entered_used h ws r cs k (insert_accepted h ws r cs k d))),
      ),
    ),
  )
