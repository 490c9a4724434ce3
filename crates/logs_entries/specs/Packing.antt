-- A log taken out of its slice, by value: as many entries as there is room for, and how many there were. Nothing of document 02 rests on this file. Assumes nothing.
use Rattle.std.specs.Prelude.{◌≡◌, Bool, false, ◌&&◌, List, ℕ, ◌≤◌, ◌<◌, length, get_or, ltb}
use Rattle.logs.specs.declared.Entry.{Entry}
use Rattle.logs.specs.Logs.{most_entries}
use Rattle.logs_entries.specs.declared.Packed.{Packed}

-- What stands for an entry that is not there.
abbrev pub no_entry : Entry
no_entry = record { train = 0; section = 0 }

-- Entry i of a log.
abbrev pub entry_in : List Entry → ℕ → Entry
entry_in es i = get_or es i no_entry

-- There is an entry more, and room for it.
abbrev pub wants : Packed → Bool
wants p = ltb p.next p.count && ltb p.next most_entries

-- The first entries of a log have been taken out.
pub record TakenOut (log : List Entry) (p : Packed) : Type 0 where
  pub counted : p.count ≡ length log
  pub there : p.next ≤ length log
  pub sized : length p.entries ≡ most_entries
  pub fits : p.next ≤ most_entries
  pub each : (i : ℕ) → i < p.next → entry_in p.entries i ≡ entry_in log i

-- All that there are, or that there is room for.
pub record PackedPost (log : List Entry) (p : Packed) : Type 0 where
  pub out : TakenOut log p
  pub all : wants p ≡ false
