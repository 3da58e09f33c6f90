-- The range, listed in a buffer row by row and then node by node. Assumes nothing.
use Prim.Native.Nat.{ℕ, ◌+◌, ◌≤◌}
use mathlib.Core.Path.{◌≡◌, refl, sym, ap, ◌∙◌}
use mathlib.Core.List.{List, [], ◌++◌, append_assoc, append-nil}
use native.Mathlib.Omega.{arith}
use lib.ListN.{length, take, drop, length-map, length-append, take-append-drop}
use lib.Seq.{length-take-le}
use Rattle.calculus.specs.Domain.{distinct}
use Rattle.calculus.specs.Overwrite.{overwrite}
use Rattle.calculus.proofs.Listing.{listing-distinct}
use Rattle.query.specs.Named.{constants_among}
use Rattle.query.proofs.KindTerms.{among_append}
use Rattle.domain.specs.Chains.{word_value, values_of, Added}
use Rattle.domain.proofs.Chains.{added_then, added_none}

-- ---- the constants among words, and the inked terms of nodes

-- the constants among the words `all`, of which those before index i are added
module _ (ws : List ℕ) (i : ℕ) where
  among_split : constants_among ws ≡ constants_among (take i ws) ++ constants_among (drop i ws)
  among_split = ap constants_among (sym (take-append-drop i ws)) ∙ among_append (take i ws) (drop i ws)

  pub among_room : length (constants_among (take i ws)) + length (constants_among (drop i ws)) ≡ length (constants_among ws)
  among_room = sym (length-append (constants_among (take i ws)) (constants_among (drop i ws))) ∙ ap length (sym among_split)

-- the terms `all`, of which some are added after n values, and `rest` is still to come
pub record Naming (all before : List ℕ) (n : ℕ) (buffer : List ℕ) (m : ℕ) (rest : List ℕ) : Type 0 where
  pub seen : List ℕ
  pub terms : seen ++ rest ≡ all
  pub added : Added before n seen buffer m

pub naming-starts : (all before : List ℕ) (n : ℕ) → Naming all before n before n all
naming-starts all before n = record { seen = []; terms = refl; added = added_none before n }

module _ {all before buffer : List ℕ} {n m : ℕ} (here rest : List ℕ) (s : Naming all before n buffer m (here ++ rest)) where
  pub naming-room : m + length here ≤ n + length all
  naming-room =
      omega (arith, s.added.most, length-append s.seen (here ++ rest), length-append here rest, ap length s.terms)

  pub naming-node : {after : List ℕ} {k : ℕ} → Added buffer m here after k → Naming all before n after k rest
  naming-node a = record {
    seen = s.seen ++ here;
    terms = append_assoc s.seen here rest ∙ s.terms;
    added = added_then s.added a;
  }

pub naming-all : {all before buffer : List ℕ} {n m : ℕ} → Naming all before n buffer m [] → Added before n all buffer m
naming-all s = rw (sym (append-nil s.seen) ∙ s.terms) at s.added

-- ---- everything is added: the values come first, and the rest of the buffer is as it was

module _ {all before buffer : List ℕ} {n : ℕ} (a : Added before 0 all buffer n) (room : length all ≤ length before) where
  pub added_fits : n ≤ length buffer
  added_fits = omega (arith, a.most, a.long)

  values-all : values_of n buffer ≡ distinct all
  values-all = a.values ∙ listing-distinct all

  pub added_number : n ≡ length (distinct all)
  added_number = sym (length-take-le n buffer added_fits) ∙ sym (length-map (take n buffer) word_value) ∙ ap length values-all

  pub added_ends : values_of n buffer ++ drop n buffer ≡ overwrite (distinct all) before
  added_ends = rw (values-all, a.kept, added_number) refl
