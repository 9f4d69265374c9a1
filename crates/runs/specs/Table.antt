-- The starred runs of document 01, "Runs with known answers", and two more of its sentences (the last address, the empty input): bytes in, lines out. The quoted words are the page's.
use Rattle.std.specs.Prelude.{List, [], ◌∷◌, ◌++◌, ℕ, ◌^◌, ◌-◌}
use Prim.Native.String.{String}
use Rattle.runs.specs.Bytes.{times, setup, open_by, add, submit, read, steps, back-word, back-status, crash, recover}
use Rattle.runs.specs.Lines.{lines, numbered}
use Rattle.runs.specs.Row.{Row, run}

-- worker 0 opens a descriptor, adds words and submits
abbrev pub operation : List ℕ → List ℕ
operation words = open_by 0 ++ words ++ submit 0

-- one to four words, from 0 to 5, 6, 7 and 8
abbrev pub one : List ℕ
one = add 0 0 0 5

abbrev pub two : List ℕ
two = one ++ add 0 1 0 6

abbrev pub three : List ℕ
three = two ++ add 0 2 0 7

abbrev pub four : List ℕ
four = three ++ add 0 3 0 8

-- the answers to the setup and an operation of c words
abbrev pub accepted : ℕ → List String
accepted c = "OK" ∷ "D 0" ∷ times c ("OK" ∷ []) ++ ("OK" ∷ [])

-- M for each of i steps
abbrev pub moves : ℕ → List String
moves i = times i ("M" ∷ [])

abbrev pub table : List Row
table =
    -- "(a) `00 01 01 01`, `01 00`, `02 00 00`, eight bytes 00, `05` and seven bytes 00, `04 00`, eight times `07 00`, `0B`,
    -- four times `0C` (48 bytes). Whole output of `tick`:"
    run
    (0x00 ∷ 0x01 ∷ 0x01 ∷ 0x01 ∷
    0x01 ∷ 0x00 ∷
    0x02 ∷ 0x00 ∷ 0x00 ∷
    0x00 ∷ 0x00 ∷ 0x00 ∷ 0x00 ∷ 0x00 ∷ 0x00 ∷ 0x00 ∷ 0x00 ∷
    0x05 ∷ 0x00 ∷ 0x00 ∷ 0x00 ∷ 0x00 ∷ 0x00 ∷ 0x00 ∷ 0x00 ∷
    0x04 ∷ 0x00 ∷
    0x07 ∷ 0x00 ∷ 0x07 ∷ 0x00 ∷ 0x07 ∷ 0x00 ∷ 0x07 ∷ 0x00 ∷ 0x07 ∷ 0x00 ∷ 0x07 ∷ 0x00 ∷ 0x07 ∷ 0x00 ∷ 0x07 ∷ 0x00 ∷
    0x0B ∷
    0x0C ∷ 0x0C ∷ 0x0C ∷ 0x0C ∷ [])
    (lines
    ("0 OK" ∷
    "1 D 0" ∷
    "2 OK" ∷
    "3 OK" ∷
    "4 M" ∷
    "5 M" ∷
    "6 M" ∷
    "7 M" ∷
    "8 M" ∷
    "9 M" ∷
    "10 M" ∷
    "11 M" ∷
    "12 OK" ∷
    "13 A" ∷
    "14 A" ∷
    "15 A" ∷
    "16 Z" ∷
    "= 5" ∷ [])) ∷
    -- "(b) as (a) with seven steps: `= 0`"
    run
    (setup 1 1 1 ++ operation one ++ steps 0 7 ++ crash ++ recover 4)
    (numbered 0 (accepted 1 ++ moves 7 ++ ("OK" ∷ "A" ∷ "A" ∷ "A" ∷ "Z" ∷ [])) "= 0") ∷
    -- "(c) as (b) with `09 00` before the crash: `= 5`"
    run
    (setup 1 1 1 ++ operation one ++ steps 0 7 ++ back-status 0 ++ crash ++ recover 4)
    (numbered 0 (accepted 1 ++ moves 7 ++ ("OK" ∷ "OK" ∷ "A" ∷ "A" ∷ "A" ∷ "Z" ∷ [])) "= 5") ∷
    -- "An undisturbed operation of c clean words that match succeeds on step 8+6c": 14
    run
    (setup 1 1 1 ++ operation one ++ steps 0 14)
    (numbered 0 (accepted 1 ++ moves 13 ++ ("S" ∷ [])) "= 5") ∷
    -- 20
    run
    (setup 2 1 1 ++ operation two ++ steps 0 20)
    (numbered 0 (accepted 2 ++ moves 19 ++ ("S" ∷ [])) "= 5 6") ∷
    -- 26
    run
    (setup 3 1 1 ++ operation three ++ steps 0 26)
    (numbered 0 (accepted 3 ++ moves 25 ++ ("S" ∷ [])) "= 5 6 7") ∷
    -- 32
    run
    (setup 4 1 1 ++ operation four ++ steps 0 32)
    (numbered 0 (accepted 4 ++ moves 31 ++ ("S" ∷ [])) "= 5 6 7 8") ∷
    -- "Failing at entry i (from 0), where a clean word is the first to differ: 9+i+3c; for one word 12"
    run
    (setup 1 1 1 ++ operation (add 0 0 1 5) ++ steps 0 12)
    (numbered 0 (accepted 1 ++ moves 11 ++ ("F" ∷ [])) "= 0") ∷
    -- "n=1, k=2, w=2: worker 0 submits 0 to 5 and takes 4 steps. Worker 1 reads address 0: `H 0`, nine M, `V 5`. Worker 0's ninth further
    -- step answers S"
    run
    (setup 1 2 2 ++ operation one ++ steps 0 4 ++ read 1 0 ++ steps 1 11 ++ steps 0 9)
    (numbered 0 (accepted 1 ++ moves 4 ++ ("OK" ∷ "H 0" ∷ []) ++ moves 9 ++ ("V 5" ∷ []) ++ moves 8 ++ ("S" ∷ [])) "= 5") ∷
    -- "Crash in a fresh memory with k=1: first recovery step is Z"
    run
    (setup 1 1 1 ++ crash ++ recover 1)
    (numbered 0 ("OK" ∷ "OK" ∷ "Z" ∷ []) "= 0") ∷
    -- "Value 2^61-1 accepted, 2^61 refused 11": as expected, as desired
    run
    (setup 2 1 1 ++ open_by 0 ++ add 0 0 (2 ^ 61) 0 ++ add 0 0 0 (2 ^ 61) ++ add 0 0 (2 ^ 61 - 1) 0 ++ add 0 1 0 (2 ^ 61 - 1))
    (numbered 0 ("OK" ∷ "D 0" ∷ "R 11" ∷ "R 11" ∷ "OK" ∷ "OK" ∷ []) "= 0 0") ∷
    -- "Address n-1 accepted, n refused 10": by an add, a read, a write-back
    run
    (setup 3 1 2 ++ open_by 0 ++ add 0 3 0 5 ++ add 0 2 0 5 ++ read 1 3 ++ read 1 2 ++ back-word 3 ++ back-word 2)
    (numbered 0 ("OK" ∷ "D 0" ∷ "R 10" ∷ "OK" ∷ "R 10" ∷ "OK" ∷ "R 10" ∷ "OK" ∷ []) "= 0 0 0") ∷
    -- "A fourth word accepted, a fifth new one refused 12, a repeat of the first 13"
    run
    (setup 5 1 1 ++ open_by 0 ++ four ++ add 0 4 0 9 ++ one)
    (numbered 0 ("OK" ∷ "D 0" ∷ "OK" ∷ "OK" ∷ "OK" ∷ "OK" ∷ "R 12" ∷ "R 13" ∷ []) "= 0 0 0 0 0") ∷
    -- "Empty input gives `0 R 2`" ("Answer lines of `tick`")
    run [] (lines ("0 R 2" ∷ [])) ∷ []
