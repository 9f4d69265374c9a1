-- What a program writes that reads its input in pieces: this is to be held against the loop of `tick`. `tick_in_pieces` (Pieces.antt) says that it is `tick_of` of
-- the whole input.
use Rattle.std.specs.Prelude.{◌≡◌, Bool, List, [], ◌++◌, ℕ, drop}
use Rattle.memory.specs.Block.{Block}
use Rattle.play.specs.declared.Stage.{Stage}
use Rattle.play.specs.declared.Stage.TheVariants.{Over}
use Rattle.play.specs.Tick.{rests, play_of, closing}

-- what a program writes that reads its input in pieces: kept is what it has read and not played, unread what it has not read
pub data Session : Block → Stage → List ℕ → List ℕ → List ℕ → Type 0 where
  -- it reads another piece, of any length
  reads : {m : Block} {s : Stage} {kept unread w : List ℕ} (x : List ℕ) → Session m s (kept ++ x) unread w → Session m s kept (x ++ unread) w
  -- it plays at most t records, writes their lines, and keeps the bytes that were not used
  plays : {m : Block} {s : Stage} {kept unread w : List ℕ} (t : ℕ)
      → Session (play_of t m s kept).memory (play_of t m s kept).stage (drop (play_of t m s kept).used kept) unread w
      → Session m s kept unread ((play_of t m s kept).text ++ w)
  -- the input has ended, and nothing that is kept can be played
  ends : {m : Block} {s : Stage} {kept : List ℕ} → play_of 1 m s kept ≡ rests m s → Session m s kept [] (closing s m kept)
  -- reading is over, whatever is unread
  stops : {m : Block} {good : Bool} {kept unread : List ℕ} → Session m (Over good) kept unread (closing (Over good) m kept)
