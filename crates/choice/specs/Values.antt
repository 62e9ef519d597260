-- What C takes of the masked servers at a tag, in rows of 16: what a row has for the other servers is free.
use Rattle.std.specs.Prelude.{ℕ, ◌+◌, ◌≤◌, ◌<◌, ◌≡◌, true, false, List, length, get_or, set}
use Rattle.std.proofs.Common.{ap, ◌∙◌, arith, length-set, get_or-set_same, get_or-set_other}
use Rattle.ranges.specs.Tests.{by_equal, not-both}
use Rattle.ranges.specs.All.{all_below}
use Rattle.ranges.specs.AllLaws.{all_none, all_more}
use Rattle.keys.specs.Masks.{has_server}
use Rattle.tables.specs.Layout.{version_setpoint, version_badge}
use Rattle.rules.specs.Choice.{serves, chosen_place, chosen_setpoint, chosen_badge}

-- a row that has a word of each masked server below k
pub record HasWords (mask k : ℕ) (word : ℕ → ℕ) (row : List ℕ) : Type 0 where
  pub long : length row ≡ 16
  pub there : (i : ℕ) → i < k → has_server mask i ≡ true → get_or row i 0 ≡ word i

-- a loop that puts the word of one server after another: it has passed n of them
module _ (mask : ℕ) (word : ℕ → ℕ) {row : List ℕ} where
  pub words-none : length row ≡ 16 → HasWords mask 0 word row
  words-none e = record { long = e; there = λ i l b. let z : ⊥ = omega arith in absurd z }

  module _ {n : ℕ} (h : HasWords mask n word row) where
    pub words_more : {v : ℕ} {row' : List ℕ} → n < 16 → v ≡ word n → row' ≡ set row n v → HasWords mask (n + 1) word row'
    words_more {v} {row'} l e s = record {
      long = rw s (length-set row n v ∙ h.long);
      there = λ i g b. rw s (by_equal i n
          (λ d. rw d (get_or-set_same row n v 0 (omega (arith, h.long)) ∙ e))
          (λ d. get_or-set_other row n i v 0 d ∙ h.there i (omega arith) b));
    }

    pub words_past : {row' : List ℕ} → has_server mask n ≡ false → row' ≡ row → HasWords mask (n + 1) word row'
    words_past {row'} f s = record {
      long = rw s h.long;
      there = λ i g b. rw s (by_equal i n (λ d. absurd (not-both b (rw d f))) (λ d. h.there i (omega arith) b));
    }

-- The loop that takes the values of one server after another at a tag: those passed all serve, and the rows have their setpoints and
-- badges.
pub record Taken (keys values log : List ℕ) (mask : ℕ) (received : ℕ → ℕ) (tag n : ℕ) (setpoints badges : List ℕ) : Type 0 where
  pub within : n ≤ 16
  pub served : all_below (serves keys log mask received tag) n ≡ true
  pub setpoint : HasWords mask n (chosen_setpoint keys values log received tag) setpoints
  pub badge : HasWords mask n (chosen_badge keys values log received tag) badges

module _ (keys values log : List ℕ) (mask : ℕ) (received : ℕ → ℕ) (tag : ℕ) {setpoints badges : List ℕ} where
  pub taken_none : length setpoints ≡ 16 → length badges ≡ 16 → Taken keys values log mask received tag 0 setpoints badges
  taken_none e f =
      record {
        within = omega arith;
        served = all_none (serves keys log mask received tag);
        setpoint = words-none mask _ e;
        badge = words-none mask _ f;
      }

  module _ {n : ℕ} (l : n < 16) (h : Taken keys values log mask received tag n setpoints badges) where
    -- a server that serves: place is where its key was found
    pub taken_more : {place s b : ℕ} {setpoints' badges' : List ℕ} → serves keys log mask received tag n ≡ true →
        place ≡ chosen_place keys log received tag n → s ≡ version_setpoint values n place → b ≡ version_badge values n place →
        setpoints' ≡ set setpoints n s → badges' ≡ set badges n b → Taken keys values log mask received tag (n + 1) setpoints' badges'
    taken_more e p f g y z =
        record {
          within = omega arith;
          served = all_more _ n h.served e;
          setpoint = words_more mask _ h.setpoint l (f ∙ ap (version_setpoint values n) p) y;
          badge = words_more mask _ h.badge l (g ∙ ap (version_badge values n) p) z;
        }

    -- and one that the mask does not have
    pub taken_past : {setpoints' badges' : List ℕ} → serves keys log mask received tag n ≡ true → has_server mask n ≡ false →
        setpoints' ≡ setpoints → badges' ≡ badges → Taken keys values log mask received tag (n + 1) setpoints' badges'
    taken_past e m y z =
        record {
          within = omega arith;
          served = all_more _ n h.served e;
          setpoint = words_past mask _ h.setpoint m y;
          badge = words_past mask _ h.badge m z;
        }
