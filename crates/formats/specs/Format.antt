-- The format of all frames: which field comes next, by the table, and the grammar that this makes.
use Rattle.std.specs.Prelude.{ℕ, zero, suc, ◌+◌, ◌-◌, ◌*◌, Bool, cond, ◌&&◌, leb, eqb}
use Rattle.frame_table.specs.declared.Field.{Field}
use Rattle.formats.specs.declared.state.State.{State}
use Rattle.formats.specs.Grammar.{Grammar, end, field}
use Rattle.frame_table.specs.Table.{many_place, entry_place, number_place, fixed_fields, entry_fields, sort_at, bits_of, least_of, most_of}
use Rattle.frame_table.specs.Table.{entries_in}

abbrev pub sort_of : State → ℕ
sort_of st = sort_at st.kind st.place

abbrev pub width_of : State → ℕ
width_of st = bits_of (sort_of st)

unfoldable pub field_of : State → Field
field_of st =
    record {
      width = width_of st;
      least = least_of (sort_of st) st.client;
      most = most_of (sort_of st) st.client st.before;
    }

-- a value that a field may have
unfoldable pub within : Field → ℕ → Bool
within f v = leb f.least v && leb v f.most

abbrev pub allowed : State → ℕ → Bool
allowed st v = within (field_of st) v

-- behind the field that says how many come four fields for each entry
unfoldable pub left_after : State → ℕ → ℕ
left_after st v = cond (eqb st.place many_place) (entry_fields * entries_in st.kind v) (st.left - 1)

-- behind an entry's last field comes the next entry's first
unfoldable pub place_after : ℕ → ℕ
place_after place = cond (eqb place number_place) entry_place (place + 1)

unfoldable pub next_of : State → ℕ → State
next_of st v =
    record {
      kind = cond (eqb st.place 0) v st.kind;
      client = cond (eqb st.place 1) v st.client;
      before = v;
      left = left_after st v;
      place = place_after st.place;
    }

-- the field that comes next, and what stands behind it
abbrev pub one : State → (ℕ → Grammar) → Grammar
one st rest = field (width_of st) (allowed st) rest

-- the fields of the entries, as many as are left
unfoldable pub entries : ℕ → State → Grammar
entries zero st = end
entries (suc n) st = one st (λ v. entries n (next_of st v))

-- as many fields of header and fixed body, then the entries
unfoldable pub fixed : ℕ → State → Grammar
fixed zero st = entries st.left st
fixed (suc n) st = one st (λ v. fixed n (next_of st v))

abbrev pub start : State
start = record { kind = 0; client = 0; before = 0; left = fixed_fields; place = 0 }

-- every frame
unfoldable pub format : Grammar
format = fixed fixed_fields start
