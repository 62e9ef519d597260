-- Of specs/Machines: what cites a theorem there that a changed definition can make fail.
use Rattle.std.specs.Prelude.{suc, ◌≡◌, List, [], ◌∷◌}
use Rattle.std.proofs.Common.{subst, sym, arith}
use Rattle.ranges.specs.Tests.{by_equal}
use Rattle.ranges.specs.Each.{Each, each_map}
use Rattle.tables.specs.Tables.{Tables, step_of, writes_of, reads_of}
use Rattle.rules.specs.Answer.{Ok, Refused}
use Rattle.soundness.specs.Facts.{Sound}
use Rattle.claim.specs.Steps.{Event, opened, begun-write, begun-read, requested, replied, lost, resent, Machine, run, left_by}
use Rattle.claim.specs.History.{History, opened_with}
use Rattle.serial.proofs.Openings.{Starts}
use Rattle.moments.specs.Claim.{with', moments_of, ByMoments}
use Rattle.moments.specs.Sorts.{Sort, writes, reads}
use Rattle.moments.proofs.Seen.{seen_now}
use Rattle.moments.specs.Seen.{Timed, Seen, seen_on, timed_on}
use Rattle.moments.specs.Overlaps.{Covered, by_moments}
use Rattle.moments.specs.Growth.{Stepped, stays, moves}
use Rattle.moments.specs.Machines.{Goes, Recording, Started, Told, none_timed}

module _ (d : Tables) where
  started-told : (h : History) (t : Tables) → Started h t → Told d t (t ∷ [])
  started-told h t s =
      let w = none_timed writes t s.writes-none in
      let r = none_timed reads t s.reads_none in
      record {
        sound = s.sound;
        writes_timed = w;
        reads_timed = r;
        writes-seen = (seen_now writes t s.sound w, tt);
        reads-seen = (seen_now reads t s.sound r, tt);
        cover = λ n l m. (0, omega arith, omega (arith, s.step));
      }

  stepped-told : (t t' : Tables) (past : List Tables) → Stepped t t' → Sound t' → Told d t past → Told d t' (t' ∷ past)
  stepped-told t t' past (stays e) sound k =
      subst (λ (u : Tables). Told d u (u ∷ past)) (sym e) (record {
        sound = k.sound;
        writes_timed = k.writes_timed;
        reads_timed = k.reads_timed;
        writes-seen = (seen_now writes t k.sound k.writes_timed, k.writes-seen);
        reads-seen = (seen_now reads t k.sound k.reads_timed, k.reads-seen);
        cover = λ n l m. let c = k.cover n l m in (suc c.0, omega (arith, c.1), c.2);
      })
  stepped-told t t' past (moves g) sound k =
      let w = timed_on writes t t' g.writes g.step k.writes_timed in
      let r = timed_on reads t t' g.reads g.step k.reads_timed in
      record {
        sound = sound;
        writes_timed = w;
        reads_timed = r;
        writes-seen = (
          seen_now writes t' sound w,
          each_map (λ u. Seen writes u t) (λ u. Seen writes u t')
              (seen_on writes t t' g.writes g.step) past k.writes-seen,
        );
        reads-seen = (
          seen_now reads t' sound r,
          each_map (λ u. Seen reads u t) (λ u. Seen reads u t')
              (seen_on reads t t' g.reads g.step) past k.reads-seen,
        );
        cover = λ n l m. by_equal n (step_of t')
            (λ e. (0, omega arith, sym e))
            (λ e. let c = k.cover n l (omega (arith, g.step)) in (suc c.0, omega (arith, c.1), c.2));
      }

told-after : (d t t' : Tables) (past : List Tables) (e : Event) → Starts Started e t' → Goes e t t' → Sound t' → Told d t past → Told d t'
    (with' e t' past)
told-after d t t' past (opened method k p setpoints Ok) s g sound told = started-told d (opened_with method setpoints) t' s
told-after d t t' past (opened method k p setpoints (Refused n)) s g sound told = stepped-told d t t' past g sound told
told-after d t t' past (begun-write q mask badge setpoints answer) s g sound told = stepped-told d t t' past g sound told
told-after d t t' past (begun-read q mask answer) s g sound told = stepped-told d t t' past g sound told
told-after d t t' past (requested q i answer) s g sound told = stepped-told d t t' past g sound told
told-after d t t' past (replied q i a) s g sound told = stepped-told d t t' past g sound told
told-after d t t' past (lost q i answer) s g sound told = stepped-told d t t' past g sound told
told-after d t t' past (resent q i answer) s g sound told = stepped-told d t t' past g sound told

module _ {S : Type 0} (machine : Machine S) (m : Recording machine) where
  run-told : (d : Tables) (steps : List S) (t : Tables) (past : List Tables) → Told d t past →
      let played = run machine steps t in Told d (left_by played t) (moments_of played past)
  run-told d [] t past k = k
  run-told d (step ∷ steps) t past k =
      let x = machine step t in
      let sound = m.sound step t k.sound in
      run-told d steps x.tables (with' x.event x.tables past)
      (told-after d t x.tables past x.event (m.starts step t) (m.goes step t k.sound) sound k)

  pub overlap_by_moments : ByMoments machine
  overlap_by_moments first t method k p setpoints e steps place l done =
      let start = (machine first t).tables in
      let s : Started (opened_with method setpoints) start = subst (λ (x : Event). Starts Started x start) e (m.starts first t) in
      let told = run-told start steps start (start ∷ []) (started-told start (opened_with method setpoints) start s) in
      by_moments start (left_by (run machine steps start) start) (moments_of (run machine steps start) (start ∷ []))
      told.reads_timed told.writes_timed told.reads-seen told.writes-seen told.cover place l done
