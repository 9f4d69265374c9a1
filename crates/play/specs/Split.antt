-- Playing some records and then some more is playing them all; more turns than bytes change nothing.
use Rattle.std.specs.Prelude.{◌≡◌, refl, Bool, true, false, List, [], ◌∷◌, ◌++◌, ℕ, zero, suc, ◌+◌, ◌-◌, ◌≤◌, length, drop}
use Rattle.std.proofs.Common.{sym, ◌∙◌, append_assoc, append-nil, arith, length-drop, drop-drop}
use Rattle.memory.specs.Block.{Block}
use Rattle.schedule.specs.declared.Head.{Head}
use Rattle.schedule.specs.declared.Head.TheVariants.{Record, Unknown, Short, End}
use Rattle.schedule.specs.Record.{head_of, body_of}
use Rattle.schedule.specs.Laws.{record_says}
use Rattle.play.specs.declared.Stage.{Stage}
use Rattle.play.specs.declared.Stage.TheVariants.{First, At, Over}
use Rattle.play.specs.Tick.{begun_in, Turn, refused_turn, record_turn, Played, rests, play_head, play_of}

-- first p, then q
abbrev pub and_then : Played → Played → Played
and_then p q = record { memory = q.memory; stage = q.stage; text = p.text ++ q.text; used = p.used + q.used }

-- what a turn leaves, as a play of its own
abbrev pub turn_played : Turn → ℕ → Played
turn_played t used = record { memory = t.memory; stage = t.stage; text = t.line; used = used }

-- what p left of the input is played on, at most b records
abbrev pub played_on : ℕ → List ℕ → Played → Played
played_on b x p = and_then p (play_of b p.memory p.stage (drop p.used x))

-- the tests of a stage that reading is not over at
abbrev pub head_for : Stage → List ℕ → Head
head_for First x = head_of false x 0
head_for (At i) x = head_of true x 0
head_for (Over good) x = End

pub over_rests : (t : ℕ) (m : Block) (good : Bool) (x : List ℕ) → play_of t m (Over good) x ≡ rests m (Over good)
unfolding play_of
over_rests zero m good x = refl
over_rests (suc t) m good x = refl

pub play_suc : (t : ℕ) (m : Block) (s : Stage) (x : List ℕ) → play_of (suc t) m s x ≡ play_head m s x (head_for s x) (λ n y z. play_of t y z (drop n x))
unfolding play_of
play_suc t m First x = refl
play_suc t m (At i) x = refl
play_suc t m (Over good) x = refl

-- where no whole record stands at the front, nothing is played
pub zero_rests : (m : Block) (s : Stage) (x : List ℕ) → play_of zero m s x ≡ rests m s
unfolding play_of
zero_rests m s x = refl

pub short_rests : (t : ℕ) (m : Block) (s : Stage) (x : List ℕ) → head_for s x ≡ Short → play_of t m s x ≡ rests m s
short_rests zero m s x e = zero_rests m s x
short_rests (suc t) m s x e = play_suc t m s x ∙ rw e

pub end_rests : (t : ℕ) (m : Block) (s : Stage) (x : List ℕ) → head_for s x ≡ End → play_of t m s x ≡ rests m s
end_rests zero m s x e = zero_rests m s x
end_rests (suc t) m s x e = play_suc t m s x ∙ rw e

-- a record at the front
pub record_goes : (t : ℕ) (m : Block) (s : Stage) (x : List ℕ) (kind n : ℕ) → head_for s x ≡ Record kind n
    → play_of (suc t) m s x
    ≡ and_then (turn_played (record_turn m s kind (body_of x 0 kind)) (suc n))
    (play_of t (record_turn m s kind (body_of x 0 kind)).memory (record_turn m s kind (body_of x 0 kind)).stage (drop (suc n) x))
record_goes t m s x kind n e = play_suc t m s x ∙ rw e

pub unknown_ends : (t : ℕ) (m : Block) (s : Stage) (x : List ℕ) → head_for s x ≡ Unknown
    → play_of (suc t) m s x ≡ and_then (turn_played (refused_turn m s 3) 0) (rests m (Over (begun_in s)))
unknown_ends t m s x e = play_suc t m s x ∙ rw e

-- a play and its parts
pub then_rests : (p : Played) → and_then p (rests p.memory p.stage) ≡ p
then_rests p = rw (append-nil p.text) (let z : p.used + 0 ≡ p.used = omega arith in rw z)

pub then_then : (p q r : Played) → and_then (and_then p q) r ≡ and_then p (and_then q r)
then_then p q r = let z : p.used + q.used + r.used ≡ p.used + (q.used + r.used) = omega arith in rw (append_assoc p.text q.text r.text, z)

-- some records, and then some more
pub play_split : (a b : ℕ) (m : Block) (s : Stage) (x : List ℕ) → play_of (a + b) m s x ≡ played_on b x (play_of a m s x)
play_split zero b m s x =
    let z : 0 + b ≡ b = omega arith in
    let y : 0 + (play_of b m s x).used ≡ (play_of b m s x).used = omega arith in
    rw (z, zero_rests m s x, y) refl
play_split (suc a) b m s x = let z : suc a + b ≡ suc (a + b) = omega arith in rw z (go (head_for s x) refl (λ y z n. play_split a b y z (drop n x)))
  where
    go : (h : Head) → head_for s x ≡ h
        → ((y : Block) (z : Stage) (n : ℕ) → play_of (a + b) y z (drop n x) ≡ played_on b (drop n x) (play_of a y z (drop n x)))
        → play_of (suc (a + b)) m s x ≡ played_on b x (play_of (suc a) m s x)
    go (Record kind n) e ih =
        let t = record_turn m s kind (body_of x 0 kind) in
        let p = play_of a t.memory t.stage (drop (suc n) x) in
        rw (record_goes (a + b) m s x kind n e, record_goes a m s x kind n e, ih t.memory t.stage (suc n))
        (sym (then_then (turn_played t (suc n)) p (play_of b p.memory p.stage (drop p.used (drop (suc n) x)))) ∙ rw (drop-drop p.used (suc n) x) refl)
    go Unknown e ih = rw (unknown_ends (a + b) m s x e, unknown_ends a m s x e, over_rests b m (begun_in s) x) (sym (then_rests _))
    go Short e ih = rw (short_rests (suc (a + b)) m s x e, short_rests (suc a) m s x e, short_rests b m s x e) refl
    go End e ih = rw (end_rests (suc (a + b)) m s x e, end_rests (suc a) m s x e, end_rests b m s x e) refl

-- as many turns as bytes are enough
pub none_left : (s : Stage) (x : List ℕ) → length x ≤ 0 → head_for s x ≡ End
unfolding head_of
none_left First [] h = refl
none_left (At i) [] h = refl
none_left (Over good) [] h = refl
none_left s (b ∷ x) h = absurd (omega arith)

-- a record at the front is there
pub front : (s : Stage) (x : List ℕ) (kind n : ℕ) → head_for s x ≡ Record kind n → suc n ≤ length x
front First x kind n e = let h = (record_says false x 0 kind n e).fits in omega arith
front (At i) x kind n e = let h = (record_says true x 0 kind n e).fits in omega arith
front (Over good) x kind n e = let z : ◌≡◌ {A = ℕ} 0 1 = cc in absurd (omega arith)

pub play_enough : (t k : ℕ) (m : Block) (s : Stage) (x : List ℕ) → length x ≤ t → play_of (t + k) m s x ≡ play_of t m s x
play_enough zero k m s x l = let z : 0 + k ≡ k = omega arith in rw z (end_rests k m s x (none_left s x l) ∙ sym (zero_rests m s x))
play_enough (suc t) k m s x l = let z : suc t + k ≡ suc (t + k) = omega arith in rw z (go (head_for s x) refl (λ y z n. play_enough t k y z (drop n x)))
  where
    go : (h : Head) → head_for s x ≡ h
        → ((y : Block) (z : Stage) (n : ℕ) → length (drop n x) ≤ t → play_of (t + k) y z (drop n x) ≡ play_of t y z (drop n x))
        → play_of (suc (t + k)) m s x ≡ play_of (suc t) m s x
    go (Record kind n) e ih =
        let r = record_turn m s kind (body_of x 0 kind) in
        let f = front s x kind n e in
        rw (record_goes (t + k) m s x kind n e, record_goes t m s x kind n e, ih r.memory r.stage (suc n) (simp length-drop (omega arith))) refl
    go Unknown e ih = rw (unknown_ends (t + k) m s x e, unknown_ends t m s x e) refl
    go Short e ih = rw (short_rests (suc (t + k)) m s x e, short_rests (suc t) m s x e) refl
    go End e ih = rw (end_rests (suc (t + k)) m s x e, end_rests (suc t) m s x e) refl

-- no more is used than there is
pub play_used : (t : ℕ) (m : Block) (s : Stage) (x : List ℕ) → (play_of t m s x).used ≤ length x
play_used zero m s x = rw (zero_rests m s x) (omega arith)
play_used (suc t) m s x = go (head_for s x) refl (λ y z n. play_used t y z (drop n x))
  where
    go : (h : Head) → head_for s x ≡ h
        → ((y : Block) (z : Stage) (n : ℕ) → (play_of t y z (drop n x)).used ≤ length (drop n x))
        → (play_of (suc t) m s x).used ≤ length x
    go (Record kind n) e ih =
        let r = record_turn m s kind (body_of x 0 kind) in
        let f = front s x kind n e in
        let g : (play_of t r.memory r.stage (drop (suc n) x)).used ≤ length x - suc n = simp length-drop at (ih r.memory r.stage (suc n)) in
        rw (record_goes t m s x kind n e) (omega arith)
    go Unknown e ih = rw (unknown_ends t m s x e) (omega arith)
    go Short e ih = rw (short_rests (suc t) m s x e) (omega arith)
    go End e ih = rw (end_rests (suc t) m s x e) (omega arith)

-- a first turn that used nothing was the last
pub play_stuck : (t : ℕ) (m : Block) (s : Stage) (x : List ℕ) → (play_of 1 m s x).used ≡ 0 → play_of (suc t) m s x ≡ play_of 1 m s x
play_stuck t m s x u = go (head_for s x) refl
  where
    go : (h : Head) → head_for s x ≡ h → play_of (suc t) m s x ≡ play_of 1 m s x
    go (Record kind n) e =
        let r = record_turn m s kind (body_of x 0 kind) in
        let z : suc n + (play_of 0 r.memory r.stage (drop (suc n) x)).used ≡ 0 = rw (record_goes 0 m s x kind n e) at u in
        absurd (omega arith)
    go Unknown e = rw (unknown_ends t m s x e, unknown_ends 0 m s x e) refl
    go Short e = rw (short_rests (suc t) m s x e, short_rests 1 m s x e) refl
    go End e = rw (end_rests (suc t) m s x e, end_rests 1 m s x e) refl
