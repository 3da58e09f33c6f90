-- An instance and its log follow their history. Assumes nothing.
use Prim.Native.Nat.{ℕ, ◌+◌, ◌-◌, ◌≤◌}
use mathlib.Core.Path.{◌≡◌, refl, sym, ap, ap₂, ◌∙◌, subst}
use mathlib.Core.Logic.{◌↔◌}
use mathlib.Core.Bool.{Bool, true, false}
use mathlib.Core.List.{List, [], ◌∷◌, ◌++◌, append_assoc, append-nil}
use native.Mathlib.Omega.{arith}
use borrow.Author.Tests.{le-leb, lt-ltb, le-ltb, leb-true}
use lib.ListN.{length, take, drop, length-append, length-drop, take-append-drop}
use lib.Seq.{take_at, drop_at, drop-drop}
use lib.Dec.{ltb, leb, eqb}
use Rattle.calculus.specs.Answer.{Answer}
use Rattle.std.specs.Prelude.{Ok, Err}
use Rattle.calculus.specs.All.{all}
use Rattle.calculus.specs.Cell.{null, is_mark, is_cell, put}
use Rattle.calculus.specs.Demand.{demand}
use Rattle.calculus.specs.Fill.{Logging, into_log, entry_length, held, substitute}
use Rattle.calculus.specs.Overwrite.{overwrite}
use Rattle.calculus.specs.declared.refusal.Refusal.{Refusal}
use Rattle.calculus.specs.declared.refusal.Refusal.TheVariants.{LogEmpty, BadLog}
use Rattle.calculus.specs.Row.{Row}
use Rattle.calculus.proofs.All.{all_append}
use Rattle.calculus.proofs.Bools.{and_intro, zero_not_one}
use Rattle.calculus.proofs.Cells.{put-cell}
use Rattle.calculus.proofs.Stores.{overwrite-length}
use Rattle.instance.specs.declared.header.Header.{Header}
use Rattle.instance.specs.Header.{max_words, arity_of}
use Rattle.instance.specs.Room.{has_room}
use Rattle.instance.specs.Rows.{are_cells, row_well_formed, rows_well_formed, words_of}
use Rattle.instance.specs.Sound.{sound, rows, header_for}
use Rattle.instance.specs.Insert.{enterable, inserted, inserted_header, inserted_words}
use Rattle.instance.specs.Substitute.{substituted}
use Rattle.instance.proofs.Accepted.{insert_accepted, substitute-accepted}
use Rattle.instance.proofs.Fillable.{words_done, words-refused}
use Rattle.instance.proofs.Headers.{Holds, rows-sound, Alike, words-alike, header-alike, map-alike, alike_refl, alike_sym, alike-append}
use Rattle.instance.proofs.Kept.{map-well-formed}
use Rattle.instance.proofs.Rows.{words_append, row_well_formed_lem}
use Rattle.instance.proofs.Sound.{sound_gives}
use Rattle.undo_log.specs.Places.{places_of, are_places, put_at}
use Rattle.undo_log.specs.Log.{entry_of, logged, logged_words, logged_log, logged_used, entry_well_formed, undone, undone_words, undone_used}
use Rattle.undo_log.specs.History.{Step, fills, undoes, inserts, State, step_answer, step_state, step_answers, state_after, Event, insertion, filling}
use Rattle.undo_log.specs.History.{rows_by, entries_by, struck, undo_by, answer_by, events_after, answers_by, history, Follows, start}
use Rattle.undo_log.specs.History.{fills_in, HistoryHolds, NeverBad, EmptyIfNoFillCounts}
use Rattle.undo_log.proofs.Places.{filled-places, put_back}
use Rattle.undo_log.proofs.Entries.{entry_length_lem, entry_used, entry-within, entry-count, entry-mark, entry_front, entry-places, entry-before}

refused_not_done : {A : Type 0} {r : Refusal} {k : ℕ} → Err r ≡ Ok k → A
refused_not_done e = let z : ◌≡◌ {A = ℕ} 0 1 = cc in absurd (zero_not_one z)

-- ---- events of accepted steps

Accepted : ℕ → List ℕ → List Event → Type 0
Accepted n ars [] = Unit
Accepted n ars (insertion r ∷ es) = (row_well_formed n ars r ≡ true) × Accepted n ars es
Accepted n ars (filling m c ∷ es) = ((is_mark m ≡ true) × (is_cell c ≡ true)) × Accepted n ars es

module _ (n : ℕ) (ars : List ℕ) where
  accepted-rows : (es : List Event) (rs : List Row) → Accepted n ars es → rows_well_formed n ars rs ≡ true → rows_well_formed n ars (rows_by es rs) ≡ true
  unfolding Accepted rows_by all
  accepted-rows [] rs a e = e
  accepted-rows (insertion r ∷ es) rs a e = all_append (row_well_formed n ars) (rows_by es rs) (r ∷ []) (accepted-rows es rs a.1 e) (and_intro a.0 refl)
  accepted-rows (filling m c ∷ es) rs a e = map-well-formed n ars (put m c) (λ x. put-cell m c x a.0.1) (rows_by es rs) (accepted-rows es rs a.1 e)

  accepted-struck : (es : List Event) → Accepted n ars es → Accepted n ars (struck es)
  unfolding Accepted struck
  accepted-struck [] a = a
  accepted-struck (insertion r ∷ es) a = (a.0, accepted-struck es a.1)
  accepted-struck (filling m c ∷ es) a = a.1

-- ---- the relations and lengths of rows, and how many words they have

-- a fill changes no word's place
fill-size : (m c : ℕ) (rs : List Row) → length (words_of (substitute m c rs)) ≡ length (words_of rs)
fill-size m c rs = words-alike (substitute m c rs) rs (map-alike (put m c) rs)

append-size : (rs ss : List Row) → length (words_of (rs ++ ss)) ≡ length (words_of rs) + length (words_of ss)
append-size rs ss = ap length (words_append rs ss) ∙ length-append (words_of rs) (words_of ss)

struck-alike : (es : List Event) (rs : List Row) → Alike (rows_by (struck es) rs) (rows_by es rs)
unfolding struck rows_by
struck-alike [] rs = alike_refl rs
struck-alike (insertion r ∷ es) rs = alike-append (rows_by (struck es) rs) (rows_by es rs) (r ∷ []) (struck-alike es rs)
struck-alike (filling m c ∷ es) rs = alike_sym (substitute m c (rows_by es rs)) (rows_by es rs) (map-alike (put m c) (rows_by es rs))

struck-size : (es : List Event) (rs : List Row) → length (words_of (rows_by (struck es) rs)) ≡ length (words_of (rows_by es rs))
struck-size es rs = words-alike (rows_by (struck es) rs) (rows_by es rs) (struck-alike es rs)

-- ---- undo, by the history

-- what undo returns and leaves of an instance that holds the history's rows and then `more`
record Undone (h : Header) (ws log : List ℕ) (used : ℕ) (es : List Event) (rs more : List Row) (rest : List ℕ) : Type 0 where
  says : undone h ws log used ≡ undo_by es rs
  leaves :
      (k : ℕ) → undo_by es rs ≡ Ok k →
      (undone_used h ws log used ≡ length (entries_by (struck es) rs)) ×
      ((take (length (entries_by (struck es) rs)) log ≡ entries_by (struck es) rs) ×
      (undone_words h ws log used ≡ words_of (rows_by (struck es) rs ++ more) ++ rest))

module _ (h : Header) (ws log : List ℕ) (used : ℕ) (rs : List Row) (rest : List ℕ) (is_sound : sound h ws ≡ true) (n : ℕ) (ars : List ℕ) where
  -- the latest event is the fill
  undo-fill :
      (m c : ℕ) (es : List Event) (more : List Row) → is_mark m ≡ true → rows h ws ≡ substitute m c (rows_by es rs) ++ more →
      ws ≡ words_of (substitute m c (rows_by es rs) ++ more) ++ rest →
      used ≡ length (entries_by es rs ++ entry_of m (rows_by es rs)) → take used log ≡ entries_by es rs ++ entry_of m (rows_by es rs) →
      Undone h ws log used (filling m c ∷ es) rs more rest
  unfolding undone undone_used undone_words entry_well_formed undo_by struck entries_by rows_by
  undo-fill m c es more mark holds words size is =
      let R = rows_by es rs in
      let front = entries_by es rs in
      let places = places_of (null m) 0 R in
      let k = held m R in
      let is_count_lem = entry-count front log used m R is size in
      let is-mark = entry-mark front log used m R is size in
      let is_front = entry_front front log used m R is size in
      let is-places = entry-places front log used m R is size in
      let is-used = entry_used front log used m R is size in
      let some = lt-ltb 0 used (omega arith) in
      let a = le-leb used (length log) (entry-within front log used m R is size) in
      let b = le-leb (2 + k) used (omega arith) in
      let d : are_places (rows h ws) places ≡ true = rw holds (filled-places m c R more) in
      let back : put_at places (null m) ws ≡ words_of (R ++ more) ++ rest =
      ap (put_at places (null m)) (words ∙ ap (λ (l : List ℕ). l ++ rest) (words_append (substitute m c R) more) ∙ append_assoc (words_of (substitute m c R)) (words_of more) rest) ∙
      put_back m c R (words_of more ++ rest) ∙
      sym (append_assoc (words_of R) (words_of more) rest) ∙ ap (λ (l : List ℕ). l ++ rest) (sym (words_append R more))
      in
      record {
        says = simp (is_sound, some, is_count_lem, is-mark, is-places, a, b, mark, d);
        leaves = λ j e. (
          simp (is_sound, some, is_count_lem, is-mark, is-places, a, b, mark, d) is_front,
          (entry-before front log used m R is size, simp (is_sound, some, is_count_lem, is-mark, is-places, a, b, mark, d) back),
        );
      }

  undo-by :
      (es : List Event) (more : List Row) → Accepted n ars es → rows h ws ≡ rows_by es rs ++ more → ws ≡ words_of (rows_by es rs ++ more) ++ rest →
      used ≡ length (entries_by es rs) → take used log ≡ entries_by es rs →
      Undone h ws log used es rs more rest
  unfolding Accepted undone undone_used undone_words undo_by struck entries_by rows_by
  undo-by [] more a holds words size is = record { says = simp (is_sound, le-ltb 0 used (omega arith)); leaves = λ k e. refused_not_done e }
  undo-by (insertion r ∷ es) more a holds words size is =
      let moved = append_assoc (rows_by es rs) (r ∷ []) more in
      let u = undo-by es (r ∷ more) a.1 (holds ∙ moved) (words ∙ ap (λ (x : List Row). words_of x ++ rest) moved) size is in
      record {
        says = u.says;
        leaves = λ k e. let l = u.leaves k e in (
          l.0,
          (l.1.0, l.1.1 ∙ ap (λ (x : List Row). words_of x ++ rest) (sym (append_assoc (rows_by (struck es) rs) (r ∷ []) more))),
        );
      }
  undo-by (filling m c ∷ es) more a holds words size is = undo-fill m c es more a.0.0 holds words size is

-- ---- one step

module _ (h : Header) (ws log : List ℕ) (is_sound : sound h ws ≡ true) where
  abbrev R : List Event → List Row
  R es = rows_by es (rows h ws)

  -- a state with the words of the history's rows is sound, and holds these rows
  made :
      (es : List Event) (s : State) → Accepted h.relations h.arities es → length (words_of (R es)) ≤ max_words → length (words_of (R es)) ≤ length ws →
      s.header ≡ header_for h.relations h.arities (R es) → s.words ≡ overwrite (words_of (R es)) ws →
      length s.log ≡ length log → s.used ≡ length (entries_by es (rows h ws)) → take s.used s.log ≡ entries_by es (rows h ws) →
      Follows h ws log es s
  made es s a few within header words log_size used entries =
      let g = sound_gives h ws is_sound in
      let kept : Holds (header_for h.relations h.arities (R es)) (overwrite (words_of (R es)) ws) (R es) =
      rows-sound h.relations h.arities (R es) (drop (length (words_of (R es))) ws) g.well_formed.header few
      (accepted-rows h.relations h.arities es (rows h ws) a g.rows_well_formed_lem)
      in
      record {
        is_sound = ap₂ sound header words ∙ kept.is_sound;
        holds = ap₂ rows header words ∙ kept.holds;
        header = header;
        words = words;
        size = ap length words ∙ overwrite-length (words_of (R es)) ws within;
        log_size = log_size;
        used = used;
        entries = entries;
      }

  module _ (es : List Event) (s : State) (g : Follows h ws log es s) (a : Accepted h.relations h.arities es) where
    abbrev entries : List ℕ
    entries = entries_by es (rows h ws)

    used_is : s.header.used ≡ length (words_of (R es))
    used_is = ap (λ (x : Header). x.used) g.header

    few : length (words_of (R es)) ≤ max_words
    few = omega (arith, used_is, (sound_gives _ _ g.is_sound).few)

    within : length (words_of (R es)) ≤ length ws
    within = omega (arith, used_is, (sound_gives _ _ g.is_sound).within, g.size)

    -- the words from the end of those in use are as at the start
    beyond : (k : ℕ) → length (words_of (R es)) ≤ k → drop k s.words ≡ drop k ws
    beyond k l =
        let n = length (words_of (R es)) in
        let is : n + (k - n) ≡ k = omega arith in
        ap (λ (x : ℕ). drop x s.words) (sym is) ∙ sym (drop-drop (k - n) n s.words) ∙
        ap (drop (k - n)) (ap (drop n) g.words ∙ drop_at (words_of (R es)) (drop n ws) n refl) ∙ drop-drop (k - n) n ws ∙ ap (λ (x : ℕ). drop x ws) is

    -- words of as many rows' words, and then the old ones
    same_size : (rs : List Row) → length (words_of rs) ≡ length (words_of (R es)) → words_of rs ++ drop s.header.used s.words ≡ overwrite (words_of rs) ws
    same_size rs e =
        ap (λ (l : List ℕ). words_of rs ++ l) (ap (λ (k : ℕ). drop k s.words) used_is ∙ beyond (length (words_of (R es))) (omega arith) ∙ ap (λ (k : ℕ). drop k ws) (sym e))

    same-header : (rs : List Row) → Alike rs (R es) → s.header ≡ header_for h.relations h.arities rs
    same-header rs a = g.header ∙ sym (header-alike h.relations h.arities rs (R es) a)

    -- a refused step leaves everything as it was
    same :
        (header : Header) (words left : List ℕ) (used : ℕ) → header ≡ s.header → words ≡ s.words → left ≡ s.log → used ≡ s.used →
        Follows h ws log es (record { header = header; words = words; log = left; used = used })
    same header words left used p q t u =
        rw (p, q, t, u)
        (record { is_sound = g.is_sound; holds = g.holds; header = g.header; words = g.words; size = g.size; log_size = g.log_size; used = g.used; entries = g.entries })

    -- ---- a logged fill

    module _ (m c : ℕ) where
      abbrev kind : Logging
      kind = into_log (length s.log) s.used

      fill-says : logged s.header s.words s.log s.used m c ≡ answer_by h ws log (fills m c) es
      unfolding substituted
      fill-says = simp (g.is_sound, g.holds, g.log_size, g.used)

      fill-refused : (r : Refusal) → logged s.header s.words s.log s.used m c ≡ Err r → Follows h ws log es (step_state (fills m c) s)
      unfolding logged_log logged_used
      fill-refused r e = same _ _ _ _ refl (words-refused _ _ kind m c r e) (simp e) (simp e)

      module _ (k : ℕ) (e : logged s.header s.words s.log s.used m c ≡ Ok k) where
        accepted-fill : (is_mark m ≡ true) × (is_cell c ≡ true)
        accepted-fill = let p = substitute-accepted s.header s.words kind m c k e in (p.mark, p.cell)

        room : s.used + entry_length (held m (R es)) ≤ length s.log
        room =
            let p = substitute-accepted s.header s.words kind m c k e in
            leb-true _ _ (ap (λ (rs : List Row). leb (s.used + entry_length (held m rs)) (length s.log)) (sym g.holds) ∙ p.room)

        fill_words_lem : logged_words s.header s.words s.log s.used m c ≡ words_of (substitute m c (R es)) ++ drop s.header.used s.words
        fill_words_lem = words_done _ _ kind m c k e ∙ ap (λ (rs : List Row). words_of (substitute m c rs) ++ drop s.header.used s.words) g.holds

        fill-log : logged_log s.header s.words s.log s.used m c ≡ entries ++ overwrite (entry_of m (R es)) (drop s.used s.log)
        unfolding logged_log
        fill-log = simp (e, g.holds, g.entries)

        fill_used : logged_used s.header s.words s.log s.used m c ≡ s.used + entry_length (held m (R es))
        unfolding logged_used
        fill_used = simp (e, g.holds)

        entries-size : length (entries ++ entry_of m (R es)) ≡ s.used + entry_length (held m (R es))
        entries-size = length-append entries (entry_of m (R es)) ∙ omega (arith, entry_length_lem m (R es), g.used)

        fill_done : Follows h ws log (filling m c ∷ es) (step_state (fills m c) s)
        unfolding Accepted rows_by entries_by
        fill_done =
            let entry = entry_of m (R es) in
            let part = drop s.used s.log in
            let long = fill-size m c (R es) in
            let fits : length entry ≤ length part = omega (arith, entry_length_lem m (R es), length-drop s.used s.log, room) in
            made (filling m c ∷ es) (step_state (fills m c) s) (accepted-fill, a) (omega (arith, long, few)) (omega (arith, long, within))
            (same-header (substitute m c (R es)) (map-alike (put m c) (R es)))
            (fill_words_lem ∙ same_size (substitute m c (R es)) long)
            (ap length fill-log ∙ length-append entries (overwrite entry part) ∙
            omega (arith, overwrite-length entry part fits, length-drop s.used s.log, room, g.used, g.log_size))
            (fill_used ∙ sym entries-size)
            (ap₂ take (fill_used ∙ sym entries-size) (fill-log ∙ sym (append_assoc entries entry (drop (length entry) part))) ∙
            take_at (entries ++ entry) (drop (length entry) part) (length (entries ++ entry)) refl)

    -- ---- an inserted row

    module _ (r : Row) where
      abbrev n : ℕ
      n = 1 + length r.cells

      insert_says : inserted s.header s.words r.relation r.cells ≡ answer_by h ws log (inserts r) es
      unfolding inserted
      insert_says = rw (g.is_sound, g.size) (ap (λ (x : Header). enterable x r.relation r.cells (length ws)) g.header)

      insert_refused : (k : Refusal) → inserted s.header s.words r.relation r.cells ≡ Err k → Follows h ws log es (step_state (inserts r) s)
      unfolding inserted_header inserted_words
      insert_refused k e = same _ _ _ _ (simp e) (simp e) refl refl

      module _ (k : ℕ) (e : inserted s.header s.words r.relation r.cells ≡ Ok k) where
        relations_are : s.header.relations ≡ h.relations
        relations_are = ap (λ (x : Header). x.relations) g.header

        arities_are : s.header.arities ≡ h.arities
        arities_are = ap (λ (x : Header). x.arities) g.header

        longer : length (words_of (R es ++ r ∷ [])) ≡ s.header.used + n
        unfolding words_of
        longer = append-size (R es) (r ∷ []) ∙ omega (arith, used_is, length-append r.cells [])

        insert_words_lem : inserted_words s.header s.words r.relation r.cells ≡ overwrite (words_of (R es ++ r ∷ [])) ws
        unfolding inserted_words words_of
        insert_words_lem =
            let front : take s.header.used s.words ≡ words_of (R es) = sym (sound_gives _ _ g.is_sound).words ∙ ap words_of g.holds in
            let words : words_of (R es) ++ (r.relation ∷ r.cells) ≡ words_of (R es ++ r ∷ []) =
            ap (λ (l : List ℕ). words_of (R es) ++ l) (sym (append-nil (r.relation ∷ r.cells))) ∙ sym (words_append (R es) (r ∷ []))
            in
            rw e
            (ap₂ (λ (l k : List ℕ). l ++ k) (ap (λ (l : List ℕ). l ++ (r.relation ∷ r.cells)) front ∙ words)
            (beyond (s.header.used + n) (omega (arith, used_is)) ∙ ap (λ (x : ℕ). drop x ws) (sym longer)))

        insert_header_lem : inserted_header s.header s.words r.relation r.cells ≡ header_for h.relations h.arities (R es ++ r ∷ [])
        unfolding inserted_header
        insert_header_lem = simp (e, g.holds, relations_are, arities_are)

        accepted_insert : row_well_formed h.relations h.arities r ≡ true
        accepted_insert =
            let p = insert_accepted s.header s.words r.relation r.cells k e in
            subst (λ (x : Header). row_well_formed x.relations x.arities r ≡ true) g.header
            (row_well_formed_lem s.header.relations s.header.arities r p.relation p.arity p.cells)

        insert_done : Follows h ws log (insertion r ∷ es) (step_state (inserts r) s)
        unfolding Accepted rows_by entries_by
        insert_done =
            let p = insert_accepted s.header s.words r.relation r.cells k e in
            made (insertion r ∷ es) (step_state (inserts r) s) (accepted_insert, a) (omega (arith, longer, p.few)) (omega (arith, longer, p.within, g.size))
            insert_header_lem insert_words_lem g.log_size g.used g.entries

    -- ---- undo

    back : Undone s.header s.words s.log s.used es (rows h ws) [] (drop (length (words_of (R es))) ws)
    back =
        let none = sym (append-nil (R es)) in
        undo-by s.header s.words s.log s.used (rows h ws) (drop (length (words_of (R es))) ws) g.is_sound h.relations h.arities es [] a
        (g.holds ∙ none) (g.words ∙ ap (λ (x : List Row). words_of x ++ drop (length (words_of (R es))) ws) none) g.used g.entries

    undo_refused : (r : Refusal) → undo_by es (rows h ws) ≡ Err r → Follows h ws log es (step_state undoes s)
    unfolding undone_words undone_used
    undo_refused r e = let u = back.says ∙ e in same _ _ _ _ refl (simp u) refl (simp u)

    undo_done : (k : ℕ) → undo_by es (rows h ws) ≡ Ok k → Follows h ws log (struck es) (step_state undoes s)
    undo_done k e =
        let l = back.leaves k e in
        let S = rows_by (struck es) (rows h ws) in
        let long = struck-size es (rows h ws) in
        made (struck es) (step_state undoes s) (accepted-struck h.relations h.arities es a) (omega (arith, long, few)) (omega (arith, long, within))
        (same-header S (struck-alike es (rows h ws)))
        (l.1.1 ∙ ap₂ (λ (x : List Row) (k : ℕ). words_of x ++ drop k ws) (append-nil S) (sym long))
        g.log_size l.0 (ap (λ (x : ℕ). take x s.log) l.0 ∙ l.1.0)

  -- ---- any step, and a list of them

  record Went (p : Step) (es : List Event) (s : State) : Type 0 where
    says : step_answer p s ≡ answer_by h ws log p es
    follows : Follows h ws log (events_after h ws log p es) (step_state p s)
    accepted : Accepted h.relations h.arities (events_after h ws log p es)

  step : (p : Step) (es : List Event) (s : State) → Follows h ws log es s → Accepted h.relations h.arities es → Went p es s
  unfolding Accepted
  step (fills m c) es s g a = go (answer_by h ws log (fills m c) es) refl
    where
      says : step_answer (fills m c) s ≡ answer_by h ws log (fills m c) es
      says = fill-says es s g a m c

      go : (x : Answer) → answer_by h ws log (fills m c) es ≡ x → Went (fills m c) es s
      go (Ok k) e = record { says = says; follows = rw e (fill_done es s g a m c k (says ∙ e)); accepted = rw e (accepted-fill es s g a m c k (says ∙ e), a) }
      go (Err r) e = record { says = says; follows = rw e (fill-refused es s g a m c r (says ∙ e)); accepted = rw e a }
  step undoes es s g a = go (undo_by es (rows h ws)) refl
    where
      go : (x : Answer) → undo_by es (rows h ws) ≡ x → Went undoes es s
      go (Ok k) e = record { says = (back es s g a).says; follows = rw e (undo_done es s g a k e); accepted = rw e (accepted-struck h.relations h.arities es a) }
      go (Err r) e = record { says = (back es s g a).says; follows = rw e (undo_refused es s g a r e); accepted = rw e a }
  step (inserts r) es s g a = go (answer_by h ws log (inserts r) es) refl
    where
      says : step_answer (inserts r) s ≡ answer_by h ws log (inserts r) es
      says = insert_says es s g a r

      go : (x : Answer) → answer_by h ws log (inserts r) es ≡ x → Went (inserts r) es s
      go (Ok k) e = record { says = says; follows = rw e (insert_done es s g a r k (says ∙ e)); accepted = rw e (accepted_insert es s g a r k (says ∙ e), a) }
      go (Err q) e = record { says = says; follows = rw e (insert_refused es s g a r q (says ∙ e)); accepted = rw e a }

  record Ended (ps : List Step) (es : List Event) (s : State) : Type 0 where
    says : step_answers ps s ≡ answers_by h ws log ps es
    follows : Follows h ws log (history h ws log ps es) (state_after ps s)
    accepted : Accepted h.relations h.arities (history h ws log ps es)

  steps : (ps : List Step) (es : List Event) (s : State) → Follows h ws log es s → Accepted h.relations h.arities es → Ended ps es s
  unfolding step_answers state_after answers_by history
  steps [] es s g a = record { says = refl; follows = g; accepted = a }
  steps (p ∷ ps) es s g a =
      let w = step p es s g a in
      let r = steps ps (events_after h ws log p es) (step_state p s) w.follows w.accepted in
      record { says = rw (w.says, r.says) refl; follows = r.follows; accepted = r.accepted }

  all-steps : (ps : List Step) → Ended ps [] (start h ws log)
  unfolding Accepted rows_by entries_by
  all-steps ps = steps ps [] (start h ws log) begin tt
    where
      begin : Follows h ws log [] (start h ws log)
      begin =
          let p = sound_gives h ws is_sound in
          let long : length (words_of (rows h ws)) ≡ h.used = ap length p.words ∙ p.in_use in
          record {
            is_sound = is_sound;
            holds = refl;
            header = sym p.header;
            words = sym (take-append-drop h.used ws) ∙ ap₂ (λ (l : List ℕ) (k : ℕ). l ++ drop k ws) (sym p.words) (sym long);
            size = refl;
            log_size = refl;
            used = refl;
            entries = refl;
          }

pub history-holds : HistoryHolds
history-holds h ws log ps is_sound = let e = all-steps h ws log is_sound ps in (e.says, e.follows)

-- ---- which refusals occur

-- a chain of demands with other refusals is not refused with 49
module _ {a : Answer} where
  not_bad : (b : Bool) (r : Refusal) → (r ≡ BadLog → ⊥) → (a ≡ Err BadLog → ⊥) → demand b (Err r) a ≡ Err BadLog → ⊥
  not_bad true r other more e = more e
  not_bad false r other more e = other (cc)

done_not_bad : (k : ℕ) → Ok k ≡ Err BadLog → ⊥
done_not_bad k e = cc

undo_not_bad : (es : List Event) (rs : List Row) → undo_by es rs ≡ Err BadLog → ⊥
unfolding undo_by
undo_not_bad [] rs e = cc
undo_not_bad (insertion r ∷ es) rs e = undo_not_bad es rs e
undo_not_bad (filling m c ∷ es) rs e = done_not_bad _ e

answer_not_bad : (h : Header) (ws log : List ℕ) (p : Step) (es : List Event) → answer_by h ws log p es ≡ Err BadLog → ⊥
unfolding enterable
answer_not_bad h ws log (fills m c) es =
    not_bad (is_mark m) _ (λ e. cc)
    (not_bad (is_cell c) _ (λ e. cc)
    (not_bad (ltb 0 (held m (rows_by es (rows h ws)))) _ (λ e. cc)
    (not_bad (leb (length (entries_by es (rows h ws)) + entry_length (held m (rows_by es (rows h ws)))) (length log)) _ (λ e. cc)
    (done_not_bad _))))
answer_not_bad h ws log undoes es = undo_not_bad es (rows h ws)
answer_not_bad h ws log (inserts r) es =
    let used = length (words_of (rows_by es (rows h ws))) in
    not_bad (ltb r.relation h.relations) _ (λ e. cc)
    (not_bad (eqb (length r.cells) (arity_of h.arities r.relation)) _ (λ e. cc)
    (not_bad (are_cells r.cells) _ (λ e. cc)
    (not_bad (has_room (used + (1 + length r.cells)) (length ws)) _ (λ e. cc)
    (done_not_bad _))))

-- what a step returns after a list of steps is what the history says
next-answer : (h : Header) (ws log : List ℕ) (ps : List Step) (p : Step) → sound h ws ≡ true
    → step_answer p (state_after ps (start h ws log)) ≡ answer_by h ws log p (history h ws log ps [])
next-answer h ws log ps p is_sound =
    let e = all-steps h ws log is_sound ps in
    (step h ws log is_sound p (history h ws log ps []) (state_after ps (start h ws log)) e.follows e.accepted).says

pub never_bad : NeverBad
never_bad h ws log ps p is_sound e = answer_not_bad h ws log p (history h ws log ps []) (sym (next-answer h ws log ps p is_sound) ∙ e)

empty-none : (es : List Event) (rs : List Row) → (undo_by es rs ≡ Err LogEmpty) ↔ (fills_in es ≡ 0)
unfolding undo_by fills_in
empty-none [] rs = (λ e. refl, λ e. refl)
empty-none (insertion r ∷ es) rs = empty-none es rs
empty-none (filling m c ∷ es) rs = (λ e. let z : ◌≡◌ {A = ℕ} 0 1 = cc in absurd (zero_not_one z), λ e. absurd (omega arith))

pub empty_if_no_fill-counts : EmptyIfNoFillCounts
empty_if_no_fill-counts h ws log ps is_sound =
    let says = next-answer h ws log ps undoes is_sound in
    let both = empty-none (history h ws log ps []) (rows h ws) in
    (λ e. both.0 (sym says ∙ e), λ e. says ∙ both.1 e)
