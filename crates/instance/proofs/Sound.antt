-- What a sound instance gives, and what a scan's result says of it. Assumes nothing.
use Prim.Native.Nat.{ℕ, ◌≤◌, ◌<◌}
use mathlib.Core.Path.{◌≡◌, refl, sym, ap, ◌∙◌}
use mathlib.Core.Bool.{Bool, true, false}
use mathlib.Core.List.{List, [], ◌∷◌}
use native.Mathlib.Omega.{arith}
use borrow.Author.Tests.{leb-true, ltb-true, ltb-false}
use lib.ListN.{length, take, get_or, get_or-eq_default}
use lib.Seq.{length-take-le}
use Rattle.std.specs.Prelude.{Result, Ok, Err}
use Rattle.calculus.specs.declared.refusal.Refusal.{Refusal}
use Rattle.calculus.specs.declared.refusal.Refusal.TheVariants.{Unsound}
use Rattle.calculus.specs.Closed.{tuples}
use Rattle.calculus.specs.Row.{Row}
use Rattle.instance.specs.declared.header.Header.{Header}
use Rattle.instance.specs.Header.{max_relations, max_words}
use lib.Dec.{ltb}
use Rattle.instance.specs.Rows.{rows_well_formed, words_of, rows_from}
use Rattle.calculus.specs.Demand.{demand}
use Rattle.instance.specs.Sound.{sound, rows, header_for, MeansCounts, tally, scanned}
use Rattle.instance.specs.InstanceWellFormed.{InstanceWellFormed}
use Rattle.instance.specs.RowCounts.{row_counts}
use Rattle.calculus.proofs.Bools.{and_parts}
use Rattle.calculus.proofs.Tuples.{tuples_le, tuples-other, identical-is}
use Rattle.instance.proofs.Rows.{Headed, headed, row_parts, words-rows_well_formed, words_back, rows_at_most}
use Rattle.instance.proofs.Headers.{header-same}
use Rattle.instance.proofs.RowCounts.{row-count_at, row_counts-size}

-- the header, the words in use, and the rows
pub record Sound (h : Header) (ws : List ℕ) : Type 0 where
  pub within : h.used ≤ length ws
  pub few : h.used ≤ max_words
  pub in_use : length (take h.used ws) ≡ h.used
  pub well_formed : InstanceWellFormed h.relations h.arities (take h.used ws)
  pub headed : Headed h.relations h.arities
  pub rows_well_formed_lem : rows_well_formed h.relations h.arities (rows h ws) ≡ true
  pub words : words_of (rows h ws) ≡ take h.used ws
  pub counted : h.counts ≡ row_counts (rows h ws)
  pub header : header_for h.relations h.arities (rows h ws) ≡ h

pub sound_gives : (h : Header) (ws : List ℕ) → sound h ws ≡ true → Sound h ws
unfolding sound rows
sound_gives h ws e =
    let t = and_parts _ _ e in
    let p = and_parts _ _ t.0 in
    let q = and_parts _ _ p.0 in
    let s = and_parts _ _ q.0 in
    let few = leb-true _ _ s.1 in
    let within = leb-true _ _ q.1 in
    let in_use = length-take-le h.used ws within in
    let counted = identical-is _ _ t.1 in
    let words = words_back h.relations h.arities 0 (take h.used ws) p.1 in
    record {
      within = within;
      few = few;
      in_use = in_use;
      well_formed = record { header = s.0; few = omega (arith, in_use); words = p.1 };
      headed = headed _ _ s.0;
      rows_well_formed_lem = words-rows_well_formed _ _ 0 _ p.1;
      words = words;
      counted = counted;
      header = header-same h (rows_from h.arities 0 (take h.used ws)) (ap length words ∙ in_use) (sym counted);
    }

-- no row is of a relation that does not exist
no_tuples : (n : ℕ) (ars : List ℕ) (rs : List Row) → rows_well_formed n ars rs ≡ true → (r : ℕ) → n ≤ r → tuples r rs ≡ []
unfolding tuples
no_tuples n ars [] e r l = refl
no_tuples n ars (row ∷ rs) e r l =
    let p = row_parts n ars row rs e in
    tuples-other r row rs (λ q. omega (arith, ltb-true row.relation n p.0)) ∙ no_tuples n ars rs p.3 r l

pub counts_mean : MeansCounts
counts_mean h ws e = record { eight = ap length g.counted ∙ row_counts-size (rows h ws); stand = stand; absent = λ r l. absent r l (ltb r max_relations) refl }
  where
    g : Sound h ws
    g = sound_gives h ws e

    stand : (r : ℕ) → r < max_relations → get_or h.counts r 0 ≡ length (tuples r (rows h ws))
    stand r l = ap (λ (cs : List ℕ). get_or cs r 0) g.counted ∙ row-count_at (rows h ws) r l

    absent : (r : ℕ) → h.relations ≤ r → (b : Bool) → ltb r max_relations ≡ b → get_or h.counts r 0 ≡ 0
    absent r l true q = stand r (ltb-true r max_relations q) ∙ ap length (no_tuples h.relations h.arities (rows h ws) g.rows_well_formed_lem r l)
    absent r l false q =
        get_or-eq_default h.counts 0 (omega (arith, ltb-false r max_relations q, ap length g.counted, row_counts-size (rows h ws)))

-- no count exceeds the number of words
pub count_low : (h : Header) (ws : List ℕ) → sound h ws ≡ true → (r : ℕ) → r < max_relations → get_or h.counts r 0 ≤ max_words
count_low h ws e r l =
    let g = sound_gives h ws e in
    omega (arith, (counts_mean h ws e).stand r l, tuples_le r (rows h ws), rows_at_most (rows h ws), ap length g.words, g.in_use, g.few)

-- what a scan's result says
pub scanned-sound : (h : Header) (ws : List ℕ) (k : ℕ) → scanned h ws ≡ Ok k → sound h ws ≡ true
unfolding scanned
scanned-sound h ws k e = go (sound h ws) _ e
  where
    go : (b : Bool) (n : ℕ) → tally b n ≡ Ok k → b ≡ true
    go true n q = refl
    go false n q = cc

pub scanned-unsound : (h : Header) (ws : List ℕ) → scanned h ws ≡ Err Unsound → sound h ws ≡ false
unfolding scanned
scanned-unsound h ws e = go (sound h ws) _ e
  where
    go : (b : Bool) (n : ℕ) → tally b n ≡ Err Unsound → b ≡ false
    go true n q = cc
    go false n q = refl

-- a scan's refusal is that of any call that scans first
pub scan_refused : {A : Type 0} (h : Header) (ws : List ℕ) (a : Result A Refusal) (r : Refusal) → scanned h ws ≡ Err r
    → demand (sound h ws) (Err Unsound) a ≡ Err r
unfolding scanned
scan_refused {A} h ws a r e = go (sound h ws) _ e
  where
    go : (b : Bool) (n : ℕ) → tally b n ≡ Err r → demand {A = Result A Refusal} b (Err Unsound) a ≡ Err r
    go true n q = cc
    go false n q = cc

-- the number of rows that a scan returns
pub scanned-rows : (h : Header) (ws : List ℕ) (k : ℕ) → scanned h ws ≡ Ok k → length (rows h ws) ≡ k
unfolding scanned
scanned-rows h ws k e = go (sound h ws) e
  where
    go : (b : Bool) → tally b (length (rows h ws)) ≡ Ok k → length (rows h ws) ≡ k
    go true q = cc
    go false q = cc
