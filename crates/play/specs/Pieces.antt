-- Wherever the input is cut, and however few records are played at a time, what a `Session` writes is `tick_of` of the whole.
use Rattle.std.specs.Prelude.{◌≡◌, refl, true, false, List, [], ◌++◌, ℕ, zero, suc, ◌+◌, ◌-◌, ◌<◌, ◌≤◌, length, drop}
use Rattle.std.proofs.Common.{sym, ap, ◌∙◌, append_assoc, append-nil, arith, length-append, length-drop, drop-drop}
use Rattle.std.proofs.lemmas.List.{drop-append-le}
use Rattle.memory.specs.Block.{Block}
use Rattle.memory.specs.Fresh.{zeros}
use Rattle.schedule.specs.declared.Head.{Head}
use Rattle.schedule.specs.declared.Head.TheVariants.{Record, Unknown, Short, End}
use Rattle.schedule.specs.Record.{body_of}
use Rattle.schedule.specs.Laws.{unknown_says}
use Rattle.schedule.specs.Pieces.{record_append, body_append, unknown_append}
use Rattle.play.specs.declared.Stage.{Stage}
use Rattle.play.specs.declared.Stage.TheVariants.{First, At, Over}
use Rattle.play.specs.Tick.{begun_in, record_turn, Played, rests, play_of, closing, out_of, tick_of}
use Rattle.play.specs.Session.{Session, reads, plays, ends, stops}
use Rattle.play.specs.Split.{and_then, turn_played, head_for, then_then, then_rests, zero_rests, over_rests, short_rests, end_rests, record_goes, unknown_ends, front, play_enough, play_used, play_stuck}

-- all of some input
abbrev pub whole_of : Block → Stage → List ℕ → Played
whole_of m s x = play_of (length x) m s x

-- as much of it as is played in t turns, and then the rest of it and what comes after
module _ (ys : List ℕ) where
  head_record : (s : Stage) (xs : List ℕ) (kind n : ℕ) → head_for s xs ≡ Record kind n
      → (head_for s (xs ++ ys) ≡ Record kind n) × (body_of (xs ++ ys) 0 kind ≡ body_of xs 0 kind)
  head_record First xs kind n e = (record_append false xs ys 0 kind n e, body_append false xs ys 0 kind n e)
  head_record (At i) xs kind n e = (record_append true xs ys 0 kind n e, body_append true xs ys 0 kind n e)
  head_record (Over good) xs kind n e = let z : ◌≡◌ {A = ℕ} 0 1 = cc in absurd (omega arith)

  head_unknown : (s : Stage) (xs : List ℕ) → head_for s xs ≡ Unknown → head_for s (xs ++ ys) ≡ Unknown
  head_unknown First xs e = unknown_append false xs ys 0 e
  head_unknown (At i) xs e = unknown_append true xs ys 0 e
  head_unknown (Over good) xs e = let z : ◌≡◌ {A = ℕ} 0 1 = cc in absurd (omega arith)

  unknown_there : (s : Stage) (xs : List ℕ) → head_for s xs ≡ Unknown → 0 < length xs
  unknown_there First xs e = (unknown_says false xs 0 e).0
  unknown_there (At i) xs e = (unknown_says true xs 0 e).0
  unknown_there (Over good) xs e = let z : ◌≡◌ {A = ℕ} 0 1 = cc in absurd (omega arith)

  -- what is played of xs ++ ys after p of xs
  abbrev onward : List ℕ → Played → Played
  onward xs p = and_then p (whole_of p.memory p.stage (drop p.used xs ++ ys))

  nothing_first : (m : Block) (s : Stage) (xs : List ℕ) → whole_of m s (xs ++ ys) ≡ onward xs (rests m s)
  nothing_first m s xs = let z : 0 + (whole_of m s (xs ++ ys)).used ≡ (whole_of m s (xs ++ ys)).used = omega arith in rw z refl

  -- more turns than bytes
  whole_from : (k : ℕ) (m : Block) (s : Stage) (x : List ℕ) → length x ≤ k → play_of k m s x ≡ whole_of m s x
  whole_from k m s x h = let z : k ≡ length x + (k - length x) = omega arith in rw z (play_enough (length x) (k - length x) m s x (omega arith))

  pub play_on : (t : ℕ) (m : Block) (s : Stage) (xs : List ℕ) → whole_of m s (xs ++ ys) ≡ onward xs (play_of t m s xs)
  play_on zero m s xs = rw (zero_rests m s xs) (nothing_first m s xs)
  play_on (suc t) m s xs = go (head_for s xs) refl (λ y z n. play_on t y z (drop n xs))
    where
      go : (h : Head) → head_for s xs ≡ h
          → ((y : Block) (z : Stage) (n : ℕ) → whole_of y z (drop n xs ++ ys) ≡ onward (drop n xs) (play_of t y z (drop n xs)))
          → whole_of m s (xs ++ ys) ≡ onward xs (play_of (suc t) m s xs)
      go (Record kind n) e ih =
          let r = record_turn m s kind (body_of xs 0 kind) in
          let p = play_of t r.memory r.stage (drop (suc n) xs) in
          let f = front s xs kind n e in
          let h = head_record s xs kind n e in
          let k = length (xs ++ ys) - 1 in
          let l : length (xs ++ ys) ≡ length xs + length ys = length-append xs ys in
          let z : length (xs ++ ys) ≡ suc k = omega arith in
          let j : length (drop (suc n) xs ++ ys) ≤ k = simp (length-append, length-drop) (omega arith) in
          let q = whole_of p.memory p.stage (drop (suc n + p.used) xs ++ ys) in
          let a : whole_of m s (xs ++ ys) ≡ play_of (suc k) m s (xs ++ ys) = ap (λ (i : ℕ). play_of i m s (xs ++ ys)) z in
          let b : play_of (suc k) m s (xs ++ ys) ≡ and_then (turn_played r (suc n)) (play_of k r.memory r.stage (drop (suc n) (xs ++ ys))) = rw h.1 at (record_goes k m s (xs ++ ys) kind n h.0) in
          let c : play_of k r.memory r.stage (drop (suc n) (xs ++ ys)) ≡ and_then p q =
          rw (drop-append-le (suc n) xs ys f, whole_from k r.memory r.stage (drop (suc n) xs ++ ys) j)
          (rw (drop-drop p.used (suc n) xs) at (ih r.memory r.stage (suc n))) in
          a ∙ b ∙ ap (and_then (turn_played r (suc n))) c ∙ sym (then_then (turn_played r (suc n)) p q) ∙ rw (record_goes t m s xs kind n e) refl
      go Unknown e ih =
          let h = head_unknown s xs e in
          let k = length (xs ++ ys) - 1 in
          let l : length (xs ++ ys) ≡ length xs + length ys = length-append xs ys in
          let f = unknown_there s xs e in
          let z : length (xs ++ ys) ≡ suc k = omega arith in
          let a : whole_of m s (xs ++ ys) ≡ play_of (suc k) m s (xs ++ ys) = ap (λ (i : ℕ). play_of i m s (xs ++ ys)) z in
          a ∙ unknown_ends k m s (xs ++ ys) h ∙ rw (unknown_ends t m s xs e, over_rests (length (drop (0 + 0) xs ++ ys)) m (begun_in s) (drop (0 + 0) xs ++ ys)) (sym (then_rests _))
      go Short e ih = rw (short_rests (suc t) m s xs e) (nothing_first m s xs)
      go End e ih = rw (end_rests (suc t) m s xs e) (nothing_first m s xs)

-- what is still to be written: what was played of the front, and then what is to be written with the rest of the input
pub out_on : (t : ℕ) (m : Block) (s : Stage) (xs ys : List ℕ)
    → out_of m s (xs ++ ys) ≡ (play_of t m s xs).text ++ out_of (play_of t m s xs).memory (play_of t m s xs).stage (drop (play_of t m s xs).used xs ++ ys)
out_on t m s xs ys =
    let p = play_of t m s xs in
    let x = drop p.used xs ++ ys in
    let q = whole_of p.memory p.stage x in
    let d : drop (p.used + q.used) (xs ++ ys) ≡ drop q.used x =
    sym (drop-drop q.used p.used (xs ++ ys)) ∙ ap (drop q.used) (drop-append-le p.used xs ys (play_used t m s xs)) in
    ap (λ (w : Played). w.text ++ closing w.stage w.memory (drop w.used (xs ++ ys))) (play_on ys t m s xs)
    ∙ rw d (append_assoc p.text q.text (closing q.stage q.memory (drop q.used x)))

stuck : (m : Block) (s : Stage) (x : List ℕ) → play_of 1 m s x ≡ rests m s → out_of m s x ≡ closing s m x
stuck m s x e =
    let w : whole_of m s x ≡ rests m s = still (length x) e in
    ap (λ (p : Played). p.text ++ closing p.stage p.memory (drop p.used x)) w
  where
    still : (t : ℕ) → play_of 1 m s x ≡ rests m s → play_of t m s x ≡ rests m s
    still zero f = zero_rests m s x
    still (suc t) f = play_stuck t m s x (ap (λ (p : Played). p.used) f) ∙ f

pub session_writes : {m : Block} {s : Stage} {kept unread w : List ℕ} → Session m s kept unread w → w ≡ out_of m s (kept ++ unread)
session_writes (reads {m} {s} {kept} {unread} {w} x h) = session_writes h ∙ ap (out_of m s) (append_assoc kept x unread)
session_writes (plays {m} {s} {kept} {unread} {w} t h) = ap (λ (y : List ℕ). (play_of t m s kept).text ++ y) (session_writes h) ∙ sym (out_on t m s kept unread)
session_writes (ends {m} {s} {kept} e) = sym (rw (append-nil kept) (stuck m s kept e))
session_writes (stops {m} {good} {kept} {unread}) = sym (ap (λ (p : Played). p.text ++ closing p.stage p.memory (drop p.used (kept ++ unread))) (over_rests (length (kept ++ unread)) m good (kept ++ unread)))

-- from the beginning: the whole output for the whole input
pub tick_in_pieces : {input w : List ℕ} → Session zeros First [] input w → w ≡ tick_of input
tick_in_pieces h = session_writes h
