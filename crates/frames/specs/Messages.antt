-- What a message is as a row of values, and a row of values as a message.
use Rattle.std.specs.Prelude.{ℕ, ◌-◌, List, [], ◌∷◌, cond, eqb, get_or}
use Rattle.keys.specs.Keys.{key_of}
use Rattle.frame_table.specs.Table.{entries_said}
use Rattle.frames.specs.declared.Fixed.{Fixed}
use Rattle.frames.specs.declared.Message.{Message}
use Rattle.frames.specs.declared.Message.TheVariants.{Set, SetDone, Enter, Entered, WhichKeys, Keys, Get, Got, GetAll, All, GetLog, Log}

-- how many entries stand beside a message
abbrev pub entries_of : Message → ℕ
entries_of (Set client server key badge setpoint) = 0
entries_of (SetDone client server) = 0
entries_of (Enter client key mask) = 0
entries_of (Entered client tag) = 0
entries_of (WhichKeys client) = 0
entries_of (Keys client tag entries) = entries
entries_of (Get client server key) = 0
entries_of (Got client server badge setpoint) = 0
entries_of (GetAll client server) = 0
entries_of (All client server entries) = entries
entries_of (GetLog client) = 0
entries_of (Log client entries) = entries

-- its header and fixed body: kind, client, target, tag, key's count and client, badge, setpoint or mask, how many entries
abbrev pub fixed_of : Message → List ℕ
fixed_of (Set client server key badge setpoint) = 1 ∷ client ∷ server ∷ 0 ∷ key.count ∷ key.client ∷ badge ∷ setpoint ∷ 0 ∷ []
fixed_of (SetDone client server) = 2 ∷ client ∷ server ∷ 0 ∷ 0 ∷ 0 ∷ 0 ∷ 0 ∷ 0 ∷ []
fixed_of (Enter client key mask) = 3 ∷ client ∷ 16 ∷ 0 ∷ key.count ∷ key.client ∷ 0 ∷ mask ∷ 0 ∷ []
fixed_of (Entered client tag) = 4 ∷ client ∷ 16 ∷ tag ∷ 0 ∷ 0 ∷ 0 ∷ 0 ∷ 0 ∷ []
fixed_of (WhichKeys client) = 5 ∷ client ∷ 16 ∷ 0 ∷ 0 ∷ 0 ∷ 0 ∷ 0 ∷ 0 ∷ []
fixed_of (Keys client tag entries) = 6 ∷ client ∷ 16 ∷ tag ∷ 0 ∷ 0 ∷ 0 ∷ 0 ∷ entries ∷ []
fixed_of (Get client server key) = 7 ∷ client ∷ server ∷ 0 ∷ key.count ∷ key.client ∷ 0 ∷ 0 ∷ 0 ∷ []
fixed_of (Got client server badge setpoint) = 8 ∷ client ∷ server ∷ 0 ∷ 0 ∷ 0 ∷ badge ∷ setpoint ∷ 0 ∷ []
fixed_of (GetAll client server) = 9 ∷ client ∷ server ∷ 0 ∷ 0 ∷ 0 ∷ 0 ∷ 0 ∷ 0 ∷ []
fixed_of (All client server entries) = 10 ∷ client ∷ server ∷ 0 ∷ 0 ∷ 0 ∷ 0 ∷ 0 ∷ (entries - 1) ∷ []
fixed_of (GetLog client) = 11 ∷ client ∷ 16 ∷ 0 ∷ 0 ∷ 0 ∷ 0 ∷ 0 ∷ 0 ∷ []
fixed_of (Log client entries) = 12 ∷ client ∷ 16 ∷ 0 ∷ 0 ∷ 0 ∷ 0 ∷ 0 ∷ (entries - 1) ∷ []

-- what is fixed in a frame's values, and how many entries these say that there are
abbrev pub fixed_at : List ℕ → Fixed
fixed_at vs =
    record {
      client = get_or vs 1 0;
      server = get_or vs 2 0;
      tag = get_or vs 3 0;
      key = key_of (get_or vs 4 0) (get_or vs 5 0);
      badge = get_or vs 6 0;
      number = get_or vs 7 0;
      entries = entries_said vs;
    }

-- the message of a kind with what is fixed in it; what is none of the first eleven is a log
unfoldable pub message_at : ℕ → Fixed → Message
message_at kind f =
    cond (eqb kind 1) (Set f.client f.server f.key f.badge f.number)
    (cond (eqb kind 2) (SetDone f.client f.server)
    (cond (eqb kind 3) (Enter f.client f.key f.number)
    (cond (eqb kind 4) (Entered f.client f.tag)
    (cond (eqb kind 5) (WhichKeys f.client)
    (cond (eqb kind 6) (Keys f.client f.tag f.entries)
    (cond (eqb kind 7) (Get f.client f.server f.key)
    (cond (eqb kind 8) (Got f.client f.server f.badge f.number)
    (cond (eqb kind 9) (GetAll f.client f.server)
    (cond (eqb kind 10) (All f.client f.server f.entries)
    (cond (eqb kind 11) (GetLog f.client)
    (Log f.client f.entries)))))))))))

unfoldable pub message_of : List ℕ → Message
message_of vs = message_at (get_or vs 0 0) (fixed_at vs)
