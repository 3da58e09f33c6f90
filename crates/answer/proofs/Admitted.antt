-- The refusals that do not depend on what is lent, one by one, and what follows if none is met. Assumes nothing.
use Prim.Native.Nat.{ℕ}
use mathlib.Core.Path.{◌≡◌, refl}
use mathlib.Core.Bool.{true, false}
use mathlib.Core.List.{List}
use lib.ListN.{length}
use Rattle.calculus.specs.Answer.{Answer}
use Rattle.std.specs.Prelude.{Ok, Err}
use Rattle.calculus.specs.Reading.{refused, read}
use Rattle.calculus.specs.declared.refusal.Refusal.{Refusal}
use Rattle.calculus.specs.declared.refusal.Refusal.TheVariants.{Unsound, BadQueryLength}
use Rattle.calculus.proofs.Answers.{demand_done}
use Rattle.instance.specs.declared.header.Header.{Header}
use Rattle.instance.specs.Sound.{sound, rows, scanned}
use Rattle.instance.proofs.Sound.{scan_refused}
use Rattle.query.specs.Words.{right_length}
use Rattle.query.specs.declared.scopes.Scopes.{Scopes}
use Rattle.query.specs.Check.{Checked, passed, check_query}
use Rattle.query.specs.Answers.{checked_as}
use Rattle.answer.specs.Ask.{if_passed, admitted}
use Rattle.answer.specs.Admitted.{Admitted}

module _ (h : Header) (ws qs cs : List ℕ) where
  pub unsound_refused : (r : Refusal) → scanned h ws ≡ Err r → admitted h ws qs cs ≡ Err r
  unfolding admitted
  unsound_refused r e = scan_refused h ws _ r e

  module _ (e : sound h ws ≡ true) where
    pub length_refused : right_length qs ≡ false → admitted h ws qs cs ≡ Err BadQueryLength
    unfolding admitted
    length_refused l = rw (e, l) refl

    module _ (l : right_length qs ≡ true) where
      pub check_refused : (r : Refusal) → checked_as (check_query h.relations h.arities qs cs) ≡ Err r → admitted h ws qs cs ≡ Err r
      unfolding admitted
      check_refused r p = rw (e, l) (go (check_query h.relations h.arities qs cs) _ p)
        where
          go : (c : Checked) (a : Answer) → checked_as c ≡ Err r → if_passed c a ≡ Err r
          go (read done s) a p = cc
          go (refused q) a p = cc

      pub none-refused : (s : Scopes) → check_query h.relations h.arities qs cs ≡ passed s → Ok (length (rows h ws)) ≡ admitted h ws qs cs
      unfolding admitted
      none-refused s p = rw (e, l, p) refl

      pub check_passed : checked_as (check_query h.relations h.arities qs cs) ≡ Ok tt → admitted h ws qs cs ≡ Ok (length (rows h ws))
      unfolding admitted
      check_passed p = rw (e, l) (go (check_query h.relations h.arities qs cs) _ p)
        where
          go : (c : Checked) (a : Answer) → checked_as c ≡ Ok tt → if_passed c a ≡ a
          go (read done s) a p = refl
          go (refused q) a p = cc

  pub admitted_done : (k : ℕ) → admitted h ws qs cs ≡ Ok k → Admitted h ws qs cs k
  unfolding admitted
  admitted_done k d =
      let a = demand_done (sound h ws) Unsound _ k d in
      let q = demand_done (right_length qs) BadQueryLength _ k a.1 in
      go (check_query h.relations h.arities qs cs) refl a.0 q.0 q.1
    where
      go :
          (c : Checked) → check_query h.relations h.arities qs cs ≡ c → sound h ws ≡ true → right_length qs ≡ true →
          if_passed c (Ok (length (rows h ws))) ≡ Ok k → Admitted h ws qs cs k
      go (read done s) p is_sound right d = record { is_sound = is_sound; right = right; scopes = s; passes = p; counted = cc }
      go (refused r) p is_sound right d = cc
