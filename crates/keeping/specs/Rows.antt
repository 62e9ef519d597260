-- The words of a client's row after several puts.
use Rattle.std.specs.Prelude.{ℕ, ◌+◌, ◌*◌, ◌≤◌, ◌<◌, ◌≡◌, refl, Bool, true, cond, ◌&&◌, List, [], ◌∷◌, length, eqb, ltb}
use Rattle.std.proofs.Common.{◌∙◌, arith, length-set, get_or-set_other, eq-eqb, ne_eqb, ltb-true}
use Rattle.ranges.specs.Tests.{by_equal, both_left, both_right}
use Rattle.tables.specs.Rows.{HasRow, word_same, word_other}
use Rattle.tables.specs.Layout.{client_width, client_word, put_client_word}

-- a word to put: its field and its value
pub record Put : Type 0 where
  pub field : ℕ
  pub value : ℕ

abbrev pub put : ℕ → ℕ → Put
put f v = record { field = f; value = v }

-- the first of the list is put first
abbrev pub put_all : List Put → ℕ → List ℕ → List ℕ
put_all [] q clients = clients
put_all (x ∷ puts) q clients = put_all puts q (put_client_word clients q x.field x.value)

-- the word that stands at a field at last, d where none was put
abbrev pub last_put : List Put → ℕ → ℕ → ℕ
last_put [] d g = d
last_put (x ∷ puts) d g = last_put puts (cond (eqb g x.field) x.value d) g

-- all fields put are below a bound
abbrev pub under : ℕ → List Put → Bool
under b [] = true
under b (x ∷ puts) = ltb x.field b && under b puts

abbrev pub in_row : List Put → Bool
in_row puts = under client_width puts

-- none of the fields put is g
abbrev pub Avoids : List Put → ℕ → Type 0
Avoids [] g = Unit {0}
Avoids (x ∷ puts) g = (g ≡ x.field → ⊥) × Avoids puts g

module _ (q : ℕ) where
  -- the client's row: at each field the last word put there
  pub put-read : (puts : List Put) (clients : List ℕ) (g d : ℕ) → HasRow client_width clients q → in_row puts ≡ true → g < client_width → client_word clients q g ≡ d →
      client_word (put_all puts q clients) q g ≡ last_put puts d g
  put-read [] clients g d h l k e = e
  put-read (x ∷ puts) clients g d h l k e =
      let f = ltb-true x.field client_width (both_left (ltb x.field client_width) (in_row puts) l) in
      put-read puts (put_client_word clients q x.field x.value) g _ (rw (length-set clients (client_width * q + x.field) x.value) h) (both_right (ltb x.field client_width) (in_row puts) l) k
      (by_equal g x.field
      (λ z. rw (eq-eqb g x.field z, z) (word_same client_width clients q x.field x.value h f))
      (λ z. rw (ne_eqb g x.field z) (word_other client_width clients q x.field x.value q g f k (λ y. z y.1) ∙ e)))

  -- what stands behind all fields put stays
  pub put-before : (puts : List Put) (clients : List ℕ) (b g : ℕ) → under b puts ≡ true → b ≤ g → client_word (put_all puts q clients) q g ≡ client_word clients q g
  put-before [] clients b g l k = refl
  put-before (x ∷ puts) clients b g l k =
      let f = ltb-true x.field b (both_left (ltb x.field b) (under b puts) l) in
      put-before puts (put_client_word clients q x.field x.value) b g (both_right (ltb x.field b) (under b puts) l) k
      ∙ get_or-set_other clients (client_width * q + x.field) (client_width * q + g) x.value 0 (λ e. omega arith)

  -- a field that is not put stays
  pub put_skip : (puts : List Put) (clients : List ℕ) (g : ℕ) → Avoids puts g → client_word (put_all puts q clients) q g ≡ client_word clients q g
  put_skip [] clients g a = refl
  put_skip (x ∷ puts) clients g a =
      put_skip puts (put_client_word clients q x.field x.value) g a.1
      ∙ get_or-set_other clients (client_width * q + x.field) (client_width * q + g) x.value 0 (λ e. a.0 (omega arith))

  -- the other rows stay
  pub put_elsewhere : (puts : List Put) (clients : List ℕ) (p g : ℕ) → in_row puts ≡ true → g < client_width → (p ≡ q → ⊥) → client_word (put_all puts q clients) p g ≡ client_word clients p g
  put_elsewhere [] clients p g l k d = refl
  put_elsewhere (x ∷ puts) clients p g l k d =
      put_elsewhere puts (put_client_word clients q x.field x.value) p g (both_right (ltb x.field client_width) (in_row puts) l) k d
      ∙ word_other client_width clients q x.field x.value p g (ltb-true x.field client_width (both_left (ltb x.field client_width) (in_row puts) l)) k (λ y. d y.0)

  pub put-length : (puts : List Put) (clients : List ℕ) → length (put_all puts q clients) ≡ length clients
  put-length [] clients = refl
  put-length (x ∷ puts) clients = put-length puts (put_client_word clients q x.field x.value) ∙ length-set clients (client_width * q + x.field) x.value
