-- Why the window holds what it held and what came, where it is slid and read into.
use Rattle.std.specs.Prelude.{ℕ, suc, ◌+◌, ◌-◌, ◌≤◌, ◌<◌, ◌≡◌, refl, Bool, cond, List, [], ◌∷◌, ◌++◌, length, take, drop, get_or, set, eqb}
use Rattle.std.proofs.Common.{sym, ap, ◌∙◌, append-nil, arith, add-one, length-drop, get_or-drop, take_at, drop_at, take-add, take-suc-set, length-take-le, eq-eqb, ne_eqb}
use Rattle.std.proofs.Math.Seq.{paste, paste-suc}
use Rattle.std.proofs.lemmas.List.Edits.{drop-paste}
use Rattle.window.specs.Window.{Came}

-- one turn of the slide: what is read was not yet written
pub slid-more : (old window : List ℕ) (from i : ℕ) → window ≡ paste old 0 (drop from old) i → from + i < length old →
    i < length (drop from old) →
    set window i (get_or window (from + i) 0) ≡ paste old 0 (drop from old) (i + 1)
slid-more old window from i e h k =
    let z : 0 + i ≡ i = omega arith in
    let s : from + i ≡ i + from = omega arith in
    let q : drop (0 + i) (paste old 0 (drop from old) i) ≡ drop (0 + i) old =
    drop-paste old 0 (drop from old) i (omega arith) (omega arith) in
    let q' : drop i window ≡ drop i old =
    ap (λ (l : List ℕ). drop i l) e ∙ ap (λ (n : ℕ). drop n (paste old 0 (drop from old) i)) (sym z) ∙ q ∙ ap (λ (n : ℕ). drop n old) z in
    let g : get_or window (from + i) 0 ≡ get_or (drop from old) i 0 =
    ap (λ (n : ℕ). get_or window n 0) s ∙ sym (get_or-drop i window from 0) ∙ ap (λ (l : List ℕ). get_or l from 0) q' ∙ get_or-drop i old from 0
    ∙ ap (λ (n : ℕ). get_or old n 0) (sym s) ∙ sym (get_or-drop from old i 0) in
    let p : set (paste old 0 (drop from old) i) (0 + i) (get_or (drop from old) i 0) ≡ paste old 0 (drop from old) (suc i) =
    paste-suc old 0 (drop from old) i 0 (omega arith) k in
    let p' : set (paste old 0 (drop from old) i) i (get_or (drop from old) i 0) ≡ paste old 0 (drop from old) (suc i) =
    ap (λ (n : ℕ). set (paste old 0 (drop from old) i) n (get_or (drop from old) i 0)) (sym z) ∙ p in
    rw (g, e, add-one i) p'

-- a list of no length
empty : (l : List ℕ) → length l ≡ 0 → l ≡ []
empty [] e = refl
empty (x ∷ l) e = let z : ⊥ = omega (arith, e) in absurd z

-- the part of a list from one place to another
pub drop-take : (l : List ℕ) (from held : ℕ) → from ≤ held → held ≤ length l → drop from (take held l) ≡ take (held - from) (drop from l)
drop-take l from held h k =
    let n : from + (held - from) ≡ held = omega (arith, h) in
    ap (λ (m : ℕ). drop from (take m l)) (sym n)
    ∙ (ap (λ (x : List ℕ). drop from x) (take-add from (held - from) l)
    ∙ drop_at (take from l) (take (held - from) (drop from l)) from (length-take-le from l (omega (arith, h, k))))

-- The window of a text: slid, then read into behind what was held.
module _ (window : List ℕ) (from held : ℕ) (h : from ≤ held) (k : held ≤ length window) where
  abbrev part : List ℕ
  part = drop from (take held window)

  -- what was held stands at the front of the slid window
  slid_front : (slid : List ℕ) → slid ≡ paste window 0 (drop from window) (held - from) → take (held - from) slid ≡ part
  slid_front slid e =
      rw e (take_at (take (held - from) (drop from window)) (drop (0 + (held - from)) window) (held - from)
      (length-take-le (held - from) (drop from window) (omega (arith, h, k, length-drop from window)))
      ∙ sym (drop-take window from held h k))

  module _ (rest came : ℕ) (slid left : List ℕ) (r : rest ≡ held - from)
      (e : slid ≡ paste window 0 (drop from window) (held - from)) (f : take rest left ≡ take rest slid)
      (long : length left ≡ length window) where
    front : take rest left ≡ part
    front = f ∙ (ap (λ (n : ℕ). take n slid) r ∙ slid_front slid e)

    -- where nothing could be read
    pub held_front : take (held - from) left ≡ part
    held_front = ap (λ (n : ℕ). take n left) (sym r) ∙ front

    part-size : length part ≡ rest
    part-size = ap length (sym front) ∙ length-take-le rest left (omega (arith, r, long, k))

    pub came-none : rest ≡ 0 → Came window from held 0 left
    came-none z = record {
      within = omega arith;
      came = [];
      front = sym (append-nil part ∙ empty part (part-size ∙ z));
      none = refl;
      ended = λ e. omega (arith, r, z);
    }

    pub came-end : rest < length window → Came window from held (rest + 1) (set left rest 10)
    came-end l =
        record {
          within = omega (arith, l);
          came = 10 ∷ [];
          front = ap (λ (n : ℕ). take n (set left rest 10)) (add-one rest)
              ∙ (take-suc-set left rest 10 (omega (arith, l, long)) ∙ ap (λ (x : List ℕ). x ++ (10 ∷ [])) front);
          none = sym (ne_eqb (rest + 1) 0 (λ e. let z : ⊥ = omega (arith, e) in z));
          ended = λ e. let z : ⊥ = omega (arith, ap length e) in absurd z;
        }

    pub came-more : rest + came ≤ length window → 0 < came → Came window from held (rest + came) left
    came-more l c =
        let size : length (take came (drop rest left)) ≡ came =
        length-take-le came (drop rest left) (omega (arith, l, long, length-drop rest left)) in
        record {
          within = l;
          came = take came (drop rest left);
          front = take-add rest came left ∙ ap (λ (x : List ℕ). x ++ take came (drop rest left)) front;
          none = ne_eqb (length (take came (drop rest left))) 0 (λ e. let z : ⊥ = omega (arith, e, size, c) in z)
              ∙ sym (ne_eqb (rest + came) 0 (λ e. let z : ⊥ = omega (arith, e, c) in z));
          ended = λ e. let z : ⊥ = omega (arith, ap length e, size, c) in absurd z;
        }

-- How many turns a run has that reads on: one less where bytes are held then, none where the text has ended.
module _ {window : List ℕ} {from held now : ℕ} {window' : List ℕ} (k : Came window from held now window') (left : ℕ) where
  pub goes_on : 0 < now → left ≡ cond (eqb (length k.came) 0) 0 left
  goes_on h = ap (λ (b : Bool). cond b 0 left) (sym (k.none ∙ ne_eqb now 0 (λ e. let z : ⊥ = omega (arith, e, h) in z)))

  pub at-end : now ≤ 0 → 0 ≡ cond (eqb (length k.came) 0) 0 left
  at-end h = ap (λ (b : Bool). cond b 0 left) (sym (k.none ∙ eq-eqb now 0 (omega (arith, h))))
