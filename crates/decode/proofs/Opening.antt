-- Reading the head of a card: first the arities, one after the other, and then the head from them. Assumes nothing.
use Prim.Native.Nat.{ℕ, suc, ◌+◌, ◌-◌, ◌≤◌, ◌<◌}
use mathlib.Core.Path.{◌≡◌, refl, sym, ap, ◌∙◌}
use mathlib.Core.Bool.{true, false}
use mathlib.Core.List.{List, [], ◌∷◌, ◌++◌, append_assoc, append-nil}
use native.Mathlib.Omega.{arith}
use lib.ListN.{length, drop, get_or, set, replicate, length-append, length-drop}
use lib.Seq.{drop-drop}
use lib.Dec.{leb}
use borrow.Author.Tests.{leb-true}
use Rattle.std.specs.Prelude.{Result, Ok, Err}
use Rattle.calculus.specs.declared.refusal.Refusal.{Refusal}
use Rattle.calculus.specs.Padded.{padded}
use Rattle.calculus.specs.Reading.{read, refused, and_then}
use Rattle.calculus.specs.declared.refusal.Refusal.TheVariants.{CutShort, BadRelationCount, BadArity}
use Rattle.calculus.proofs.Bools.{and_parts}
use Rattle.calculus.proofs.Padded.{padded_more}
use Rattle.instance.specs.Header.{is_count, is_arity, arities_well_formed, max_relations}
use Rattle.parse.specs.Parse.{Parsed, read_each}
use Rattle.parse.specs.Number.{read_number}
use Rattle.parse.proofs.Bytes.{byte_at, byte_cut}
use Rattle.parse.proofs.Numbers.{takes_number, took}
use Rattle.card.specs.Format.{Head, read_arities, read_head}
use Rattle.card.proofs.Parts.{arities-read, head_read}
use Rattle.decode.specs.declared.head.Head as declared-head
use Rattle.decode.specs.Measure.{opened_arities, opened_head}

-- ---- the loop over the arities, which start at byte 1

-- what is returned for n arities
abbrev opening : List ℕ → ℕ → Result (List ℕ) Refusal
opening card n = opened_arities [] (read_arities n (drop 1 card))

module _ (card : List ℕ) (n : ℕ) where
  -- the arities that were read are in the array, with zeros after them, and the others are still to be read
  pub record OpeningArities (ars : List ℕ) (i : ℕ) : Type 0 where
    pub before : List ℕ
    pub within : i ≤ n
    pub size : length before ≡ i
    pub array : ars ≡ padded max_relations before
    pub whole : opening card n ≡ opened_arities before (read_arities (n - i) (drop (i + 1) card))

  pub arities-start : OpeningArities (replicate max_relations 0) 0
  arities-start =
      let e : n - 0 ≡ n = omega arith in
      record { before = []; within = omega arith; size = refl; array = refl; whole = rw e }

  module _ (few : n ≤ max_relations) (ars : List ℕ) (i : ℕ) (o : OpeningArities ars i) (some : i < n) where
    one : n - i ≡ suc (n - (i + 1))
    one = omega arith

    pub opening_cut : length card - 1 ≤ i → opening card n ≡ Err CutShort
    unfolding read_each opened_arities
    opening_cut h = o.whole ∙ rw (one, byte_cut is_arity BadArity card (i + 1) (omega arith))

    module _ (room : i + 1 < length card) (a : ℕ) (is : a ≡ get_or card (i + 1) 0) where
      pub opening_bad : is_arity a ≡ false → opening card n ≡ Err BadArity
      unfolding read_each opened_arities
      opening_bad e = o.whole ∙ rw (one, byte_at is_arity BadArity card (i + 1) room, ← is, e)

      pub opening_more : is_arity a ≡ true → OpeningArities (set ars i a) (i + 1)
      unfolding read_each opened_arities
      opening_more e = record {
        before = o.before ++ a ∷ [];
        within = omega arith;
        size = rw (length-append, o.size);
        array = rw o.array (padded_more max_relations o.before i a o.size (omega arith));
        whole = o.whole ∙ rw (one, byte_at is_arity BadArity card (i + 1) room, ← is, e) (go (read_arities (n - (i + 1)) (drop (i + 1 + 1) card)));
      }
        where
          go : (p : Parsed (List ℕ)) → opened_arities o.before (and_then p (λ ars bs. read (a ∷ ars) bs)) ≡ opened_arities (o.before ++ a ∷ []) p
          go (read ars bs) = rw (append_assoc o.before (a ∷ []) ars)
          go (refused r) = refl

  pub opening_end : (ars : List ℕ) (i : ℕ) → OpeningArities ars i → n ≤ i → Ok ars ≡ opening card n
  unfolding opened_arities read_each
  opening_end ars i o h =
      let none : n - i ≡ 0 = omega arith in
      sym (o.whole ∙ rw (none, append-nil o.before, o.array))

-- the arities that were read
pub arities_opened : (card : List ℕ) (n : ℕ) (given : List ℕ) → Ok given ≡ opening card n
    → (ars : List ℕ) × (rest : List ℕ) × (read_arities n (drop 1 card) ≡ read ars rest) × (given ≡ padded max_relations ars)
unfolding opened_arities
arities_opened card n given = go (read_arities n (drop 1 card)) refl
  where
    go : (p : Parsed (List ℕ)) → read_arities n (drop 1 card) ≡ p → Ok given ≡ opened_arities [] p
        → (ars : List ℕ) × (rest : List ℕ) × (read_arities n (drop 1 card) ≡ read ars rest) × (given ≡ padded max_relations ars)
    go (read ars rest) e a = (ars, rest, e, cc)
    go (refused r) e a = cc

-- ---- the head

pub head-none : (card : List ℕ) → length card < 1 → opened_head (read_head card) ≡ Err CutShort
unfolding read_head opened_head
head-none card h = rw (byte_cut is_count BadRelationCount card 0 (omega arith))

-- a card that has a first byte n
module _ (card : List ℕ) (n : ℕ) (some : 1 ≤ length card) (is : n ≡ get_or card 0 0) where
  pub head_bad : is_count n ≡ false → opened_head (read_head card) ≡ Err BadRelationCount
  unfolding read_head opened_head
  head_bad e = rw (byte_at is_count BadRelationCount card 0 some, ← is, e)

  -- what is read after the first byte
  after : Parsed (List ℕ) → Parsed Head
  after p = and_then p (λ ars bs. and_then (read_number 2 bs) (λ count bs. read (record { relations = n; arities = padded max_relations ars; count = count }) bs))

  module _ (good : is_count n ≡ true) where
    first : read_head card ≡ after (read_arities n (drop 1 card))
    unfolding read_head after
    first = rw (byte_at is_count BadRelationCount card 0 some, ← is, good)

    pub head-refused : (why : Refusal) → Err why ≡ opening card n → opened_head (read_head card) ≡ Err why
    unfolding opened_arities opened_head after
    head-refused why e = rw first (go (read_arities n (drop 1 card)) e)
      where
        go : (p : Parsed (List ℕ)) → Err why ≡ opened_arities [] p → opened_head (after p) ≡ Err why
        go (read ars rest) a = cc
        go (refused r) a = cc

    module _ (ars rest : List ℕ) (e : read_arities n (drop 1 card) ≡ read ars rest) where
      pub head-long : n + 1 ≤ length card
      head-long = omega (arith, (arities-read n (drop 1 card) e).long, length-drop 1 card)

      place : rest ≡ drop (n + 1) card
      place =
          let same : 1 + n ≡ n + 1 = omega arith in
          (arities-read n (drop 1 card) e).after ∙ drop-drop n 1 card ∙ ap (λ (i : ℕ). drop i card) same

      pub head_cut : length card - (n + 1) < 2 → opened_head (read_head card) ≡ Err CutShort
      unfolding opened_head after
      head_cut h = rw (first, e, place, (takes_number 2).cut (drop (n + 1) card) (rw length-drop h))

      pub head-answer : {count : ℕ} {end : List ℕ} → read_number 2 (drop (n + 1) card) ≡ read count end
          → opened_head (read_head card) ≡ Ok (record { relations = n; arities = padded max_relations ars; rows = count })
      unfolding opened_head after
      head-answer counted = rw (first, e, place, counted)

-- A head that was read: where its records start, and that its arities are well formed.
pub record Opened (card : List ℕ) (n : ℕ) (ars : List ℕ) (count : ℕ) : Type 0 where
  pub was_read : read_head card ≡ read (record { relations = n; arities = ars; count = count }) (drop (n + 3) card)
  pub few : n ≤ max_relations
  pub arities_well_formed_lem : arities_well_formed n ars ≡ true
  pub long : n + 3 ≤ length card

-- the same for a head that is known to be the card's
pub head_opened : (card : List ℕ) (head : declared-head.Head) → Ok head ≡ opened_head (read_head card) → Opened card head.relations head.arities head.rows
unfolding opened_head
head_opened card head = go (read_head card) refl
  where
    go : (p : Parsed Head) → read_head card ≡ p → Ok head ≡ opened_head p → Opened card head.relations head.arities head.rows
    go (read h rest) e a =
        let same : head ≡ record { relations = h.relations; arities = h.arities; rows = h.count } = cc in
        let c = head_read card e in
        let t = took (takes_number 2) c.between c.count-read in
        let n = h.relations in
        let three : 1 + (n + 2) ≡ n + 3 = omega arith in
        let last : rest ≡ drop (n + 3) card =
        t.1 ∙ ap (drop 2) c.arities-read.after ∙ drop-drop 2 n c.body ∙ ap (λ (bs : List ℕ). drop (n + 2) (drop 1 bs)) (sym c.bytes) ∙
        drop-drop (n + 2) 1 card ∙ ap (λ (i : ℕ). drop i card) three
        in
        let size : length c.between ≡ length c.body - n = ap length c.arities-read.after ∙ length-drop n c.body in
        rw same record {
          was_read = e ∙ rw last;
          few = leb-true n max_relations (and_parts (leb 1 n) (leb n max_relations) c.counted).1;
          arities_well_formed_lem = rw c.arities_are (c.arities-read.arities_well_formed_lem (max_relations - length c.ars));
          long = omega (arith, t.0, c.arities-read.long, ap length c.bytes);
        }
    go (refused why) e a = cc
