-- Laws of a window: whether a line's end is held, where a print goes on, what stands behind a line, and what a run has behind one.
use Rattle.std.specs.Prelude.{ℕ, ◌+◌, ◌-◌, ◌≤◌, ◌<◌, ◌≡◌, refl, Bool, true, false, cond, List, [], ◌∷◌, ◌++◌, length, take, drop, eqb, ltb, leb}
use Rattle.std.proofs.Common.{sym, ap, subst, ◌∙◌, true≢false, arith, length-append, length-drop, drop-drop, length-take-le}
use Rattle.std.proofs.lemmas.List.{drop-append-le}
use Rattle.std.proofs.Math.Seq.{drop-append-add, take-length}
use borrow.Author.Tests.{lt-ltb, le-ltb, le-leb, lt-leb, ltb-true, ltb-false, leb-true, leb-false}
use Rattle.ranges.specs.Tests.{by-test, either}
use Rattle.schedule.specs.Lines.{line_of, lines_of, end_of}
use Rattle.schedule.specs.LineLaws.{lines_next, line-found, take-line, line_short}
use Rattle.schedule.specs.Steps.{line_most}
use Rattle.printing.specs.Sizes.{answer_most}
use Rattle.window.specs.declared.Run.{Run}
use Rattle.window.specs.Window.{turns_most, held_by, behind_line, lacks_end, wants_more, room_from, passed, lines_then, roomy, ReadOn, Going}

module _ (size held : ℕ) where
  pub lacks_short : size ≤ line_most → leb held size ≡ lacks_end size held
  unfolding lacks_end
  lacks_short h = rw (le-leb _ _ h)

  pub ends_long : line_most < size → false ≡ lacks_end size held
  unfolding lacks_end
  ends_long h = rw (lt-leb _ _ h)

  pub lacking : lacks_end size held ≡ true → (size ≤ line_most) × (held ≤ size)
  unfolding lacks_end
  lacking e = by-test (leb size line_most)
      (λ f. (leb-true _ _ f, leb-true held size (rw f at e)))
      (λ f. absurd (true≢false (sym (rw f at e))))

  pub whole_there : lacks_end size held ≡ false → size ≤ line_most → size < held
  unfolding lacks_end
  whole_there e h = leb-false held size (rw (le-leb _ _ h) at e)

-- where a print goes on, by whether the longest answer has place behind what is used; they are free there in any case
module _ (used size : ℕ) where
  pub at_front : size - answer_most < used → room_from used size ≡ 0
  unfolding room_from
  at_front h = rw (lt-ltb _ _ h)

  pub behind-used : used ≤ size - answer_most → room_from used size ≡ used
  unfolding room_from
  behind-used h = rw (le-ltb _ _ h)

  pub room_free : answer_most ≤ size → room_from used size + answer_most ≤ size
  room_free h = by-test (ltb (size - answer_most) used)
      (λ e. rw (at_front (ltb-true _ _ e)) h)
      (λ e. let f : used ≤ size - answer_most = ltb-false _ _ e in rw (behind-used f) (omega (arith, f, h)))

-- a line with no byte 10 behind it goes on in what comes next
line_open : (part unread : List ℕ) → length part ≤ length (line_of part) → line_of (part ++ unread) ≡ part ++ line_of unread
unfolding line_of
line_open [] unread h = refl
line_open (byte ∷ part) unread h =
    by-test (eqb byte 10)
    (λ e. let z : ⊥ = omega (arith, rw e at h) in absurd z)
    (λ e. rw e (ap (λ (l : List ℕ). byte ∷ l) (line_open part unread (omega (arith, rw e at h)))))

-- the lines of a text that is not empty
lines-first : (text : List ℕ) → 0 < length text → lines_of text ≡ line_of text ∷ lines_of (behind_line text)
lines-first text h =
    let n : end_of text 0 + 1 ≡ length (line_of text) + 1 = omega arith in
    lines_next text 0 h ∙ ap (λ (k : ℕ). line_of text ∷ lines_of (drop k text)) n

module _ (part unread : List ℕ) where
  module _ (found : length (line_of part) < length part) where
    -- what stands behind a line whose byte 10 is held
    pub behind-found : behind_line (part ++ unread) ≡ behind_line part ++ unread
    behind-found = rw (line-found part unread found) (drop-append-le (length (line_of part) + 1) part unread (omega (arith, found)))

    pub lines-found : lines_of (part ++ unread) ≡ line_of part ∷ lines_of (behind_line part ++ unread)
    lines-found =
        lines-first (part ++ unread) (omega (arith, found, length-append part unread))
        ∙ (ap (λ (l : List ℕ). l ∷ lines_of (behind_line (part ++ unread))) (line-found part unread found)
        ∙ ap (λ (l : List ℕ). line_of part ∷ lines_of l) behind-found)

  module _ (open' : length part ≤ length (line_of part)) where
    -- what stands behind a line that goes on
    pub behind_open : behind_line (part ++ unread) ≡ behind_line unread
    behind_open =
        let n : length (part ++ line_of unread) + 1 ≡ length part + (length (line_of unread) + 1) =
        omega (arith, length-append part (line_of unread)) in
        ap (λ (l : List ℕ). drop (length l + 1) (part ++ unread)) (line_open part unread open')
        ∙ (ap (λ (k : ℕ). drop k (part ++ unread)) n ∙ drop-append-add part unread (length (line_of unread) + 1))

    pub lines_open : 0 < length part → lines_of (part ++ unread) ≡ (part ++ line_of unread) ∷ lines_of (behind_line unread)
    lines_open h =
        lines-first (part ++ unread) (omega (arith, h, length-append part unread))
        ∙ (ap (λ (l : List ℕ). l ∷ lines_of (behind_line (part ++ unread))) (line_open part unread open')
        ∙ ap (λ (l : List ℕ). (part ++ line_of unread) ∷ lines_of l) behind_open)

module _ (run : Run) (size lines used : ℕ) where
  pub passed-found : run.from + size < run.held →
      passed run size lines used ≡
      record { left = run.left - 1; lines = lines; from = run.from + size + 1; held = run.held; used = used; skipping = false }
  unfolding passed
  passed-found h = rw (lt-ltb _ _ h)

  pub passed_open : run.held ≤ run.from + size →
      passed run size lines used ≡
      record { left = run.left - 1; lines = lines; from = run.from + size; held = run.held; used = used; skipping = true }
  unfolding passed
  passed_open h = rw (le-ltb _ _ h)

  pub passed-used : (passed run size lines used).used ≡ used
  unfolding passed
  passed-used = by-test (ltb (run.from + size) run.held) (λ e. rw e) (λ e. rw e)

-- what a run that is passed has
pub record Behind (run : Run) (lines used : ℕ) (r : Run) : Type 0 where
  pub left : r.left ≡ run.left - 1
  pub lines' : r.lines ≡ lines
  pub from : r.from ≤ r.held
  pub held : r.held ≡ run.held
  pub used' : r.used ≡ used

pub passed-behind : (run : Run) (size lines used : ℕ) → run.from + size ≤ run.held → Behind run lines used (passed run size lines used)
passed-behind run size lines used h =
    by-test (ltb (run.from + size) run.held)
    (λ e. subst (Behind run lines used) (sym (passed-found run size lines used (ltb-true _ _ e)))
    (record { left = refl; lines' = refl; from = omega (arith, ltb-true (run.from + size) run.held e); held = refl; used' = refl }))
    (λ e. subst (Behind run lines used) (sym (passed_open run size lines used (ltb-false _ _ e)))
    (record { left = refl; lines' = refl; from = h; held = refl; used' = refl }))

-- What is held of a text.
module _ (run : Run) (window : List ℕ) (within : run.held ≤ length window) where
  pub part_length : length (held_by run window) ≡ run.held - run.from
  part_length = length-drop run.from (take run.held window) ∙ ap (λ (n : ℕ). n - run.from) (length-take-le run.held window within)

  -- what stands behind the line at the front of it
  pub behind_there : drop (run.from + length (line_of (held_by run window)) + 1) (take run.held window) ≡ behind_line (held_by run window)
  behind_there =
      let size = length (line_of (held_by run window)) in
      let n : run.from + size + 1 ≡ run.from + (size + 1) = omega arith in
      rw n (sym (drop-drop (size + 1) run.from (take run.held window)))

-- a line that goes on is all of its part
pub whole-line : (part : List ℕ) → length part ≤ length (line_of part) → line_of part ≡ part
whole-line part open' =
    let n : length (line_of part) ≡ length part = omega (arith, open', line_short part) in
    sym (take-line part) ∙ rw n (take-length part)

-- A run between two turns.
module _ (run : Run) (window out : List ℕ) (going : Going run window out) (some_left : 0 < run.left) where
  pub held-within : run.held ≤ length window
  held-within = omega (arith, going.held, going.window_length)

  -- the line that is held lies within what is held
  pub line-fits : length (line_of (held_by run window)) ≤ run.held - run.from
  line-fits = omega (arith, line_short (held_by run window), part_length run window held-within)

  -- whether more is wanted, told of the line at the front of what is held
  pub wants : (line : List ℕ) → line ≡ line_of (held_by run window) → {b : Bool} →
      lacks_end (length line) (run.held - run.from) ≡ b → wants_more run window ≡ b
  wants line is-line e = ap (λ (x : List ℕ). lacks_end (length x) (run.held - run.from)) (sym is-line) ∙ e

  pub read-less : (r : Run) (window' : List ℕ) → ReadOn run window r window' → r.left < run.left
  read-less r window' k =
      subst (λ (n : ℕ). n < run.left) (sym k.left)
      (either (λ (n : ℕ). n < run.left) (eqb (length k.came) 0) some_left (omega (arith, some_left)))

  -- a run that reads on
  pub going-read : (r : Run) (window' : List ℕ) → ReadOn run window r window' → length window' ≡ length window → Going r window' out
  going-read r window' k l = record {
    window_length = l ∙ going.window_length;
    out_length = going.out_length;
    from = omega (arith, k.from);
    held = omega (arith, k.within, going.window_length);
    used = omega (arith, k.used, going.used);
    lines = omega (arith, k.lines, read-less r window' k, going.lines);
  }

  -- A line is answered where room was made.
  abbrev pub used : ℕ
  used = room_from run.used (length out)

  pub room : used + answer_most ≤ length out
  room = room_free run.used (length out) (omega (arith, going.out_length))

  lines_more : lines_then (roomy run used) ≤ run.lines + 1
  lines_more = either (λ (n : ℕ). n ≤ run.lines + 1) run.skipping (omega arith) (omega arith)

  -- a run behind a line that was answered
  module _ (line : List ℕ) (is-line : line ≡ line_of (held_by run window)) where
    pub line-behind : (r : Run) → r ≡ passed (roomy run used) (length line) (lines_then (roomy run used)) r.used →
        Behind (roomy run used) (lines_then (roomy run used)) r.used r
    line-behind r next =
        let fits : run.from + length line ≤ run.held = rw is-line (omega (arith, line-fits, going.from)) in
        subst (Behind (roomy run used) (lines_then (roomy run used)) r.used) (sym next)
        (passed-behind (roomy run used) (length line) (lines_then (roomy run used)) r.used fits)

    pub going-behind : (r : Run) (out' : List ℕ) → r ≡ passed (roomy run used) (length line) (lines_then (roomy run used)) r.used →
        r.used ≤ used + answer_most → length out' ≡ length out → Going r window out'
    going-behind r out' next short l =
        let b = line-behind r next in
        record {
          window_length = going.window_length;
          out_length = l ∙ going.out_length;
          from = b.from;
          held = omega (arith, b.held, going.held);
          used = omega (arith, short, room, going.out_length);
          lines = omega (arith, b.lines', b.left, lines_more, some_left, going.lines);
        }

    -- a run that has made room is ready for the line
    module _ (made : Run) (is-roomy : made ≡ roomy run used) where
      pub ready-fits : (made.from + length line ≤ made.held) × (0 < made.left)
      ready-fits =
          let f : made.from ≡ run.from = ap (λ (x : Run). x.from) is-roomy in
          let h : made.held ≡ run.held = ap (λ (x : Run). x.held) is-roomy in
          let l : made.left ≡ run.left = ap (λ (x : Run). x.left) is-roomy in
          let n : length line ≤ run.held - run.from = rw is-line line-fits in
          (omega (arith, f, h, n, going.from), omega (arith, l, some_left))

      pub ready_room : (made.used + answer_most ≤ length out) × (made.lines + made.left ≤ turns_most)
      ready_room =
          let u : made.used ≡ used = ap (λ (x : Run). x.used) is-roomy in
          let n : made.lines ≡ run.lines = ap (λ (x : Run). x.lines) is-roomy in
          let l : made.left ≡ run.left = ap (λ (x : Run). x.left) is-roomy in
          (omega (arith, u, room), omega (arith, n, l, going.lines))
