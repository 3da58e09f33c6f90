-- The fills of a run follow the model: instance, candidate, log and answers are the model's, and the model is the one that is fed the fills one by one.
-- Assumes nothing.
use Prim.Native.Nat.{ℕ}
use mathlib.Core.Path.{◌≡◌, refl, ap, ap₂, ◌∙◌, subst}
use mathlib.Core.Bool.{true}
use mathlib.Core.List.{List, [], ◌∷◌, ◌++◌, map}
use lib.ListN.{drop}
use Rattle.calculus.specs.Answer.{Answer}
use Rattle.std.specs.Prelude.{Ok, Err}
use Rattle.calculus.specs.Answer.{after}
use Rattle.calculus.specs.Cell.{put}
use Rattle.calculus.specs.Fill.{substitute}
use Rattle.calculus.specs.Model.{Fill, Model, answer_of, next, run, after_fills, fill_answers}
use Rattle.calculus.specs.Row.{Row}
use Rattle.instance.specs.declared.header.Header.{Header}
use Rattle.instance.specs.Rows.{words_of}
use Rattle.instance.specs.Sound.{sound, rows}
use Rattle.instance.proofs.Run.{Follows, follows-answer, follows_next, follows-words}
use Rattle.rerun.specs.declared.fills.Wanted.{Wanted}
use Rattle.rerun.specs.Fills.{fed, log_left, used_left, Filled, fill_told, fill_leaves, Account, account_told, account_next, fed_all, answer_words, fills_told, accounts_told}

-- the model after the fills is the model that is fed them
pub fed-run : (ws : List Wanted) (a : Account) → (after_fills account_next ws a).model ≡ run (fed_all ws a) a.model
unfolding after_fills fed_all
fed-run [] a = refl
fed-run (w ∷ ws) a = fed-run ws (account_next w a)

next-candidate : (f : Fill) (b : Model) → after (answer_of f b) (map (put f.mark f.cell) b.candidate) b.candidate ≡ (next f b).candidate
next-candidate f b = go (answer_of f b)
  where
    go :
        (a : Answer) →
        after a (map (put f.mark f.cell) b.candidate) b.candidate ≡
        (after a (record { rows = substitute f.mark f.cell b.rows; candidate = map (put f.mark f.cell) b.candidate }) b).candidate
    go (Ok k) = refl
    go (Err r) = refl

-- what the fills of a run have changed is as the model says; `first` are the instance's words before them
pub record Kept (h : Header) (first : List ℕ) (s : Filled) (a : Account) : Type 0 where
  pub follows : Follows h first s.words a.model
  pub candidate : s.candidate ≡ a.model.candidate
  pub log : s.log ≡ a.log
  pub used : s.used ≡ a.used

module _ (h : Header) (first : List ℕ) where
  -- one fill
  module _ (w : Wanted) (s : Filled) (a : Account) (k : Kept h first s a) where
    fed-same : fed w s.log s.used ≡ fed w a.log a.used
    fed-same = ap₂ (fed w) k.log k.used

    told_same : fill_told h w s ≡ account_told w a
    told_same = follows-answer h first (fed w s.log s.used) s.words a.model k.follows ∙ ap (λ (f : Fill). answer_of f a.model) fed-same

    kept_next : Kept h first (fill_leaves h w s) (account_next w a)
    kept_next = record {
      follows = subst (λ (f : Fill). Follows h first (fill_leaves h w s).words (next f a.model)) fed-same (follows_next h first (fed w s.log s.used) s.words a.model k.follows);
      candidate =
          ap₂ (λ (x : Answer) (cs : List ℕ). after x (map (put w.mark w.cell) cs) cs) told_same k.candidate ∙
          next-candidate (fed w a.log a.used) a.model;
      log =
          ap₂ (λ (x : Answer) (rs : List Row). log_left w x rs s.log s.used) told_same k.follows.holds ∙
          ap₂ (log_left w (account_told w a) a.model.rows) k.log k.used;
      used =
          ap₂ (λ (x : Answer) (rs : List Row). used_left w x rs s.used) told_same k.follows.holds ∙
          ap (used_left w (account_told w a) a.model.rows) k.used;
    }

  kept-all :
      (ws : List Wanted) (s : Filled) (a : Account) → Kept h first s a →
      (fills_told h ws s ≡ accounts_told ws a) × Kept h first (after_fills (fill_leaves h) ws s) (after_fills account_next ws a)
  unfolding after_fills fill_answers
  kept-all [] s a k = (refl, k)
  kept-all (w ∷ ws) s a k =
      let r = kept-all ws (fill_leaves h w s) (account_next w a) (kept_next w s a k) in
      (ap₂ (λ (x : List ℕ) (xs : List (List ℕ)). x ∷ xs) (ap (answer_words w) (told_same w s a k)) r.0, r.1)

-- from a sound instance
module _ (h : Header) (ws candidate log : List ℕ) (used : ℕ) (wanted : List Wanted) (is_sound : sound h ws ≡ true) where
  abbrev s : Filled
  s = record { words = ws; candidate = candidate; log = log; used = used }

  abbrev a : Account
  a = record { model = record { rows = rows h ws; candidate = candidate }; log = log; used = used }

  pub model-kept : (fills_told h wanted s ≡ accounts_told wanted a) × Kept h ws (after_fills (fill_leaves h) wanted s) (after_fills account_next wanted a)
  model-kept =
      kept-all h ws wanted s a (record { follows = record { is_sound = is_sound; holds = refl; long = refl; others = refl }; candidate = refl; log = refl; used = refl })

  -- the words in use are those of the model's rows
  pub words-kept : (after_fills (fill_leaves h) wanted s).words ≡ words_of (after_fills account_next wanted a).model.rows ++ drop h.used ws
  words-kept = follows-words h ws _ _ model-kept.1.follows
