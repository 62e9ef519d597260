-- A link followed through one recording, and through two at once.
use Rattle.std.specs.Prelude.{◌≡◌, refl, ℕ, ◌+◌, ◌≤◌, ◌<◌, List, [], ◌∷◌, Bool, true, false, cond, length, get_or}
use Rattle.std.proofs.Common.{sym, ◌∙◌, arith}
use Rattle.std.proofs.Math.Path.{ap, ap₂}
use Rattle.recordings.specs.declared.Cursor.{Cursor}
use Rattle.recordings.specs.Place.{Place}
use Rattle.recordings.specs.Place.{Nowhere, At}
use Rattle.recordings.specs.Recording.{frames_of, is_on}
use Rattle.recordings.specs.Comparing.{frames_on, same, further, first_difference, difference_on}
use Rattle.recordings.specs.ReadableLaws.{on_bytes, on_bytes_lem}
use Rattle.recordings.specs.Whole.{frames_from, frame_at, Standing, Stopped, Reached, Passing, frames_cut, frames-end}
use Rattle.recordings.specs.Whole.{frame_inside, frame-two, stands-next}

-- ---- the frames of a link, from a cursor on

module _ (lengths bytes : List ℕ) (client target frame at : ℕ) where
  abbrev left : List (List ℕ)
  left = frames_on client target (frames_from lengths bytes frame at)

  -- there are none behind the last frame
  pub on-end : length lengths ≤ frame → frames_on client target (frames_from lengths bytes frame at) ≡ []
  unfolding frames_on
  on-end h = ap (frames_on client target) (frames-end lengths bytes frame at h)

  module _ (h : frame < length lengths) where
    abbrev behind : List (List ℕ)
    behind = frames_on client target (frames_from lengths bytes (frame + 1) (at + get_or lengths frame 0))

    on_cut :
        frames_on client target (frames_from lengths bytes frame at)
        ≡ cond (is_on client target (frame_at lengths bytes frame at)) (frame_at lengths bytes frame at ∷ behind) behind
    unfolding frames_on
    on_cut = ap (frames_on client target) (frames_cut lengths bytes frame at h)

    -- a frame of the link is the first of those left; another is passed
    pub on-here : is_on client target (frame_at lengths bytes frame at) ≡ true
        → frames_on client target (frames_from lengths bytes frame at)
        ≡ frame_at lengths bytes frame at ∷ frames_on client target (frames_from lengths bytes (frame + 1) (at + get_or lengths frame 0))
    on-here e = on_cut ∙ rw e

    pub on-passed : is_on client target (frame_at lengths bytes frame at) ≡ false
        → frames_on client target (frames_from lengths bytes (frame + 1) (at + get_or lengths frame 0))
        ≡ frames_on client target (frames_from lengths bytes frame at)
    on-passed e = sym (on_cut ∙ rw e)

-- ---- the search for a link's next frame, as the code meets it

module _ (lengths bytes : List ℕ) (client target frame at : ℕ) where
  pub passing-start : Standing lengths bytes frame at → Passing lengths bytes client target frame at frame at
  passing-start s = record { stands = s; later = omega arith; passed = refl }

  module _ (i place : ℕ) (p : Passing lengths bytes client target frame at i place) where
    pub passing-end : length lengths ≤ i → Reached lengths bytes client target frame at (record { frame = i; at = place })
    passing-end h =
        record {
          stopped = record { stands = p.stands; here = λ k. let z : ⊥ = omega arith in absurd z };
          later = p.later;
          passed = p.passed;
        }

    module _ (h : i < length lengths) where
      pub header_inside : place + 2 ≤ length bytes
      header_inside =
          omega (arith, frame_inside lengths bytes i place h p.stands, frame-two lengths bytes i place h p.stands)

      module _ {r : Bool} (d : r ≡ on_bytes client target (get_or bytes place 0) (get_or bytes (place + 1) 0)) where
        on-frame : r ≡ is_on client target (frame_at lengths bytes i place)
        on-frame = d ∙ sym (on_bytes_lem bytes place (get_or lengths i 0) client target (frame-two lengths bytes i place h p.stands))

        pub passing-found : r ≡ true → Reached lengths bytes client target frame at (record { frame = i; at = place })
        passing-found t =
            record {
              stopped = record { stands = p.stands; here = λ k. sym on-frame ∙ t };
              later = p.later;
              passed = p.passed;
            }

        pub passing_on : r ≡ false → {n : ℕ} → n ≡ get_or lengths i 0
            → Passing lengths bytes client target frame at (i + 1) (place + n)
        passing_on t e =
            rw e
            (record {
              stands = stands-next lengths bytes i place h p.stands;
              later = omega (arith, p.later);
              passed = on-passed lengths bytes client target i place h (sym on-frame ∙ t) ∙ p.passed;
            })

-- ---- two recordings

-- so many frames further
unfoldable pub further_by : ℕ → Place → Place
further_by n Nowhere = Nowhere
further_by n (At m) = At (n + m)

further-none : (p : Place) → further_by 0 p ≡ p
unfolding further_by
further-none Nowhere = refl
further-none (At m) = ap At (omega arith)

further-one : (n : ℕ) (p : Place) → further_by n (further p) ≡ further_by (n + 1) p
unfolding further_by further
further-one n Nowhere = refl
further-one n (At m) = ap At (omega arith)

-- Two cursors on one link: the frames of the link before them are the same, `place` of each.
module _ (lengths bytes lengths' bytes' : List ℕ) (client target : ℕ) where
  abbrev whole_difference : Place
  whole_difference = difference_on client target (frames_of lengths bytes) (frames_of lengths' bytes')

  pub record Level (i at j at' place : ℕ) : Type 0 where
    pub one : Stopped lengths bytes client target i at
    pub other : Stopped lengths' bytes' client target j at'
    pub early : place ≤ i
    pub so_far :
        further_by place
        (first_difference (frames_on client target (frames_from lengths bytes i at))
        (frames_on client target (frames_from lengths' bytes' j at')))
        ≡ difference_on client target (frames_of lengths bytes) (frames_of lengths' bytes')

  pub level-start : {r r' : Cursor} → Reached lengths bytes client target 0 0 r → Reached lengths' bytes' client target 0 0 r'
      → Level r.frame r.at r'.frame r'.at 0
  unfolding difference_on
  level-start r r' =
      record {
        one = r.stopped;
        other = r'.stopped;
        early = omega arith;
        so_far = further-none _ ∙ ap₂ first_difference r.passed r'.passed;
      }

  module _ {i at j at' place : ℕ} (l : Level i at j at' place) where
    -- what is found at the two cursors
    found_at : {xs ys : List (List ℕ)}
        → frames_on client target (frames_from lengths bytes i at) ≡ xs
        → frames_on client target (frames_from lengths' bytes' j at') ≡ ys
        → further_by place (first_difference xs ys) ≡ difference_on client target (frames_of lengths bytes) (frames_of lengths' bytes')
    found_at e d = ap₂ (λ (xs ys : List (List ℕ)). further_by place (first_difference xs ys)) (sym e) (sym d) ∙ l.so_far

    at_place : At place ≡ further_by place (At 0)
    unfolding further_by
    at_place = ap At (omega arith)

    pub level-end : length lengths ≤ i → length lengths' ≤ j
        → Nowhere ≡ difference_on client target (frames_of lengths bytes) (frames_of lengths' bytes')
    unfolding first_difference further_by
    level-end h k = found_at (on-end lengths bytes client target i at h) (on-end lengths' bytes' client target j at' k)

    pub level-missing : length lengths ≤ i → j < length lengths'
        → At place ≡ difference_on client target (frames_of lengths bytes) (frames_of lengths' bytes')
    unfolding first_difference
    level-missing h k =
        at_place
        ∙ found_at (on-end lengths bytes client target i at h) (on-here lengths' bytes' client target j at' k (l.other.here k))

    pub level-missing_other : i < length lengths → length lengths' ≤ j
        → At place ≡ difference_on client target (frames_of lengths bytes) (frames_of lengths' bytes')
    unfolding first_difference
    level-missing_other h k =
        at_place
        ∙ found_at (on-here lengths bytes client target i at h (l.one.here h)) (on-end lengths' bytes' client target j at' k)

    module _ (h : i < length lengths) (k : j < length lengths') where
      both-here :
          further_by place
          (cond (same (frame_at lengths bytes i at) (frame_at lengths' bytes' j at'))
          (further
          (first_difference (frames_on client target (frames_from lengths bytes (i + 1) (at + get_or lengths i 0)))
          (frames_on client target (frames_from lengths' bytes' (j + 1) (at' + get_or lengths' j 0)))))
          (At 0))
          ≡ difference_on client target (frames_of lengths bytes) (frames_of lengths' bytes')
      unfolding first_difference
      both-here =
          found_at (on-here lengths bytes client target i at h (l.one.here h))
          (on-here lengths' bytes' client target j at' k (l.other.here k))

      pub level_differs : same (frame_at lengths bytes i at) (frame_at lengths' bytes' j at') ≡ false
          → At place ≡ difference_on client target (frames_of lengths bytes) (frames_of lengths' bytes')
      level_differs e = at_place ∙ rw e at both-here

      pub level-next : {r r' : Cursor}
          → same (frame_at lengths bytes i at) (frame_at lengths' bytes' j at') ≡ true
          → Reached lengths bytes client target (i + 1) (at + get_or lengths i 0) r
          → Reached lengths' bytes' client target (j + 1) (at' + get_or lengths' j 0) r'
          → Level r.frame r.at r'.frame r'.at (place + 1)
      level-next e r r' =
          record {
            one = r.stopped;
            other = r'.stopped;
            early = omega (arith, l.early, r.later);
            so_far =
                sym (further-one place _)
                ∙ ap₂ (λ (xs ys : List (List ℕ)). further_by place (further (first_difference xs ys))) r.passed r'.passed
                ∙ rw e at both-here;
          }
