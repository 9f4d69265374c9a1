-- The event or the setup that a record's body holds (document 01, "Schedule records"). Numbers are one byte; expected and desired are eight.
use Rattle.std.specs.Prelude.{ℕ, cond, List, eqb, get_or}
use Rattle.little.specs.Number.{number_at}
use Rattle.memory.specs.declared.Sizes.{Sizes}
use Rattle.events.specs.declared.Event.{Event}
use Rattle.events.specs.declared.Event.TheVariants.{Open, Add, Remove, Submit, Discard, Read, Step, BackWord, BackStatus, BackBody, Crash, Recover}

abbrev pub byte : List ℕ → ℕ → ℕ
byte body i = get_or body i 0

-- the event of a record of kind 01 to 0C; any other kind is taken for 0C
unfoldable pub event_of : ℕ → List ℕ → Event
event_of kind body =
    cond (eqb kind 0x01) (Open (byte body 0))
    (cond (eqb kind 0x02) (Add (byte body 0) (byte body 1) (number_at body 2) (number_at body 10))
    (cond (eqb kind 0x03) (Remove (byte body 0) (byte body 1))
    (cond (eqb kind 0x04) (Submit (byte body 0))
    (cond (eqb kind 0x05) (Discard (byte body 0))
    (cond (eqb kind 0x06) (Read (byte body 0) (byte body 1))
    (cond (eqb kind 0x07) (Step (byte body 0))
    (cond (eqb kind 0x08) (BackWord (byte body 0))
    (cond (eqb kind 0x09) (BackStatus (byte body 0))
    (cond (eqb kind 0x0A) (BackBody (byte body 0))
    (cond (eqb kind 0x0B) Crash
    Recover))))))))))

-- 00: n, k, w
abbrev pub setup_of : List ℕ → Sizes
setup_of body = record { n = byte body 0; k = byte body 1; w = byte body 2 }
