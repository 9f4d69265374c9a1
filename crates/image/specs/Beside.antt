-- A memory in recovery beside the image of its cached copy: the machine plans the same step, and its effect is the same.
use Rattle.std.proofs.Math.Path.{◌≡◌, refl, sym, ap}
use Rattle.std.proofs.Common.{◌∙◌, arith, eqb-true, ltb-true, None, Option}
use Rattle.std.specs.Prelude.{Bool, cond, ◌&&◌, ℕ, suc, ◌+◌, ◌*◌, ◌/◌, ◌<◌, ◌^◌, eqb, ltb}
use Rattle.std.proofs.Math.Bool.{true, false}
use mathlib.Core.List.{List}
use Rattle.std.proofs.lemmas.Bool.{eqb-false}
use Rattle.word.specs.declared.Sort.TheVariants.{Plain}
use Rattle.word.specs.declared.Status.TheVariants.{Free}
use Rattle.word.specs.Word.{word_number}
use Rattle.word.specs.Status.{status_of}
use Rattle.steps.specs.declared.Seen.{Seen}
use Rattle.steps.specs.declared.Effect.TheVariants.{Nothing}
use Rattle.steps.specs.declared.RecoveryPlace.{RecoveryPlace}
use Rattle.steps.specs.declared.RecoveryPlace.TheVariants.{Outside, At}
use Rattle.steps.specs.Plan.{is_free, left_value}
use Rattle.steps.specs.Recovery.{recovery_plan, live_step, entry_step, end_step, recovery_step}
use Rattle.memory.specs.declared.Copy.{Copy}
use Rattle.memory.specs.declared.Copy.TheVariants.{Cached, Persisted}
use Rattle.memory.specs.Block.{Block, Field, slot, get, put}
use Rattle.memory.specs.Block.Field.{word, status, body, size}
use Rattle.memory.specs.Fields.{Whole, Somewhere, apart, whole_put, get_put, get_other, word_somewhere, status_somewhere}
use Rattle.memory.specs.Content as M
use Rattle.memory.specs.StoreLaws.{recovery_other}
use Rattle.machine.specs.Step as S
use Rattle.machine.specs.Recover.{place_after, visit_after, recovery_plan_at}
use Rattle.image.specs.Layout.{word_of, with_word, part_of, status_in, count_in, entry_in, with_status}
use Rattle.image.specs.Good.{Good}
use Rattle.image.specs.Stays.{Reached, live, entry_at}
use Rattle.image.specs.PlanLaws.{Before, plan_cases}
use Rattle.image.specs.OfMemory.{image_of, Fits, word_read, status_read, count_read, entry_read, same_image, field_is, word_store, status_store}
use Rattle.image.specs.Recover.{seen_in, performed_in, plan_in}
use Rattle.steps.specs.declared.Plan.{Plan}

-- a plan depends on the count; on the status before the first step; on all that is seen at an entry
pub same_plan : (d done : ℕ) (s t : Seen) → s.count ≡ t.count → (done ≡ 0 → is_free s.status ≡ is_free t.status)
    → ((is_free t.status ≡ true → 0 < done) → Before done t.count → s ≡ t) → recovery_plan d done s ≡ recovery_plan d done t
unfolding recovery_plan live_step entry_step
same_plan d done s t c f h = go (eqb done 0) (is_free t.status) refl refl f
  where
    entries : (is_free t.status ≡ true → 0 < done) → (a b : Bool) → ltb done 8 ≡ a → ltb (done / 2) t.count ≡ b
        → cond (a && b) (entry_step d done s) (end_step done) ≡ cond (a && b) (entry_step d done t) (end_step done)
    entries l true true e g = ap (λ (u : Seen). entry_step d done u) (h l (ltb-true _ _ e, ltb-true _ _ g))
    entries l true false e g = refl
    entries l false b e g = refl

    rest : (is_free t.status ≡ true → 0 < done) → live_step d done s ≡ live_step d done t
    rest l = rw c (entries l (ltb done 8) (ltb (done / 2) t.count) refl refl)

    go : (a b : Bool) → eqb done 0 ≡ a → is_free t.status ≡ b → (done ≡ 0 → is_free s.status ≡ b)
        → cond (a && is_free s.status) (recovery_step Nothing None) (live_step d done s) ≡ cond (a && b) (recovery_step Nothing None) (live_step d done t)
    go true true e g k = let q = k (eqb-true _ _ e) in rw q
    go true false e g k = let q = k (eqb-true _ _ e) in rw q (rest (λ r. let z : ◌≡◌ {A = ℕ} 0 1 = cc in absurd (omega arith)))
    go false b e g k = rest (λ r. let o : done ≡ 0 → ⊥ = eqb-false done 0 e in omega arith)

-- the memory beside the image: its cached copy's image, numbers of 64 bits, the bodies of both copies the same
pub record Beside (n k : ℕ) (m : Block) (x : List ℕ) : Type 0 where
  pub whole : Whole m
  pub fits : Fits Cached m
  pub image : x ≡ image_of Cached m n k
  pub bodies : (e j : ℕ) → get m (body Persisted e j) ≡ get m (body Cached e j)
  pub descriptors : get m (size 1) ≡ k

-- the statuses still to be visited are the same in both copies
pub record Ahead (m : Block) (d done : ℕ) : Type 0 where
  pub later : (e : ℕ) → d < e → get m (status Persisted e) ≡ get m (status Cached e)
  pub first : done ≡ 0 → get m (status Persisted d) ≡ get m (status Cached d)
  pub living : is_free (M.status_in Cached m d) ≡ false → get m (status Persisted d) ≡ get m (status Cached d)

-- the machine plans the same step
module _ (n k : ℕ) (m : Block) (x : List ℕ) (d done : ℕ) (b : Beside n k m x) (a : Ahead m d done) (g : Good n k x) (r : Reached n k x d done) where
  status_seen : status_in (part_of x n d) ≡ M.status_in Cached m d
  status_seen = let e = b.image in rw e (status_read Cached m n k b.fits d r.here)

  count_seen : M.count_in Persisted m d ≡ count_in (part_of x n d)
  count_seen = let e = b.image in b.bodies d 0 ∙ sym (rw e (count_read Cached m n k b.fits d r.here))

  entry_seen : (i : ℕ) → i < 4 → M.entry_in Persisted m d i ≡ entry_in (part_of x n d) i
  unfolding M.entry_in
  entry_seen i l =
      let e = b.image in
      let h : M.entry_in Persisted m d i ≡ M.entry_in Cached m d i = rw (b.bodies d (1 + 3 * i), b.bodies d (2 + 3 * i), b.bodies d (3 + 3 * i)) in
      h ∙ sym (rw e (entry_read Cached m n k b.fits d i r.here l))

  free_seen : done ≡ 0 → M.status_in Persisted m d ≡ status_in (part_of x n d)
  free_seen z = ap status_of (a.first z) ∙ sym status_seen

  all_seen : (is_free (status_in (part_of x n d)) ≡ true → 0 < done) → Before done (count_in (part_of x n d)) → S.seen_in Persisted m d (done / 2) ≡ seen_in x n d (done / 2)
  unfolding S.seen_in seen_in
  all_seen l q =
      let e = b.image in
      let f = live n k x g d done r (is_free (status_in (part_of x n d))) refl l q in
      let s : M.status_in Persisted m d ≡ status_in (part_of x n d) = ap status_of (a.living (rw status_seen at f)) ∙ sym status_seen in
      let h = q.0 in
      let i = entry_seen (done / 2) (omega arith) in
      let w : M.word_in Cached m (entry_in (part_of x n d) (done / 2)).address ≡ word_of x (entry_in (part_of x n d) (done / 2)).address
      = sym (ap (λ (y : List ℕ). word_of y (entry_in (part_of x n d) (done / 2)).address) e ∙ word_read Cached m n k b.fits (entry_in (part_of x n d) (done / 2)).address (entry_at n k x g d done r l q)) in
      rw (i, s, count_seen, w)

  pub plans_agree : recovery_plan_at m d done ≡ plan_in x n d done
  unfolding recovery_plan_at plan_in S.seen_in seen_in
  plans_agree = same_plan d done (S.seen_in Persisted m d (done / 2)) (seen_in x n d (done / 2)) counts frees seens
    where
      counts : (S.seen_in Persisted m d (done / 2)).count ≡ (seen_in x n d (done / 2)).count
      counts = count_seen

      frees : done ≡ 0 → is_free (S.seen_in Persisted m d (done / 2)).status ≡ is_free (seen_in x n d (done / 2)).status
      frees z = ap is_free (free_seen z)

      seens : (is_free (seen_in x n d (done / 2)).status ≡ true → 0 < done) → Before done (seen_in x n d (done / 2)).count → S.seen_in Persisted m d (done / 2) ≡ seen_in x n d (done / 2)
      seens l q = all_seen l q

-- a memory that differs from this one in none of the numbers of either copy
pub record Alike (m z : Block) : Type 0 where
  pub words : (c : Copy) (a : ℕ) → get z (word c a) ≡ get m (word c a)
  pub statuses : (c : Copy) (d : ℕ) → get z (status c d) ≡ get m (status c d)
  pub bodies : (c : Copy) (d j : ℕ) → get z (body c d j) ≡ get m (body c d j)
  pub sizes : get z (size 1) ≡ get m (size 1)

abbrev pub AheadAt : Block → RecoveryPlace → Type 0
AheadAt m Outside = Unit
AheadAt m (At d done) = Ahead m d done

pub place_alike : (m : Block) (p : RecoveryPlace) → Alike m (M.put_recovery m p)
place_alike m p =
    record {
      words = λ c a. recovery_other m p (word c a) (λ j e. let z : ◌≡◌ {A = ℕ} 0 1 = cc in omega arith);
      statuses = λ c d. recovery_other m p (status c d) (λ j e. let z : ◌≡◌ {A = ℕ} 0 1 = cc in omega arith);
      bodies = λ c d i. recovery_other m p (body c d i) (λ j e. let z : ◌≡◌ {A = ℕ} 0 1 = cc in omega arith);
      sizes = recovery_other m p (size 1) (λ j e. let z : ◌≡◌ {A = ℕ} 0 1 = cc in omega arith);
    }

pub beside_alike : (n k : ℕ) (m z : Block) (x : List ℕ) → Whole z → Alike m z → Beside n k m x → Beside n k z x
beside_alike n k m z x w a b =
    let f = b.fits in
    record {
      whole = w;
      fits = record { words = λ i. rw (a.words Cached i) (f.words i); statuses = λ d. rw (a.statuses Cached d) (f.statuses d); bodies = λ d j. rw (a.bodies Cached d j) (f.bodies d j) };
      image = b.image ∙ sym (same_image Cached m z n k (λ j. field_is Cached (λ g. get z g ≡ get m g) n j (a.words Cached) (a.statuses Cached) (a.bodies Cached)));
      bodies = λ e j. a.bodies Persisted e j ∙ b.bodies e j ∙ sym (a.bodies Cached e j);
      descriptors = a.sizes ∙ b.descriptors;
    }

-- a number of 64 bits stored keeps all of them so
put_fits : (m : Block) (f : Field) (v : ℕ) → Whole m → Somewhere f → v < 2 ^ 64 → (o : Field) → get m o < 2 ^ 64 → get (put m f v) o < 2 ^ 64
put_fits m f v w h l o q = go (eqb (slot f) (slot o)) refl
  where
    go : (t : Bool) → eqb (slot f) (slot o) ≡ t → get (put m f v) o < 2 ^ 64
    go true e = let i : f ≡ o = apart f o h (eqb-true _ _ e) in rw (← i, get_put m f v w h) l
    go false e = let i : f ≡ o → ⊥ = (λ j. eqb-false (slot f) (slot o) e (ap slot j)) in rw (get_other m f v o i) q

beside_put : (n k : ℕ) (m : Block) (x y : List ℕ) (f : Field) (v : ℕ) → Beside n k m x → Somewhere f → v < 2 ^ 64 → ((c : Copy) (e j : ℕ) → f ≡ body c e j → ⊥) → (f ≡ size 1 → ⊥)
    → y ≡ image_of Cached (put m f v) n k → Beside n k (put m f v) y
beside_put n k m x y f v b h l o q i =
    let w = b.whole in
    let t = b.fits in
    record {
      whole = whole_put m f v w;
      fits = record {
        words = λ a. put_fits m f v w h l (word Cached a) (t.words a);
        statuses = λ d. put_fits m f v w h l (status Cached d) (t.statuses d);
        bodies = λ d j. put_fits m f v w h l (body Cached d j) (t.bodies d j);
      };
      image = i;
      bodies = λ e j. get_other m f v (body Persisted e j) (o Persisted e j) ∙ b.bodies e j ∙ sym (get_other m f v (body Cached e j) (o Cached e j));
      descriptors = get_other m f v (size 1) q ∙ b.descriptors;
    }

-- what is stored in the persisted copy does not show in the image
unseen : (n k : ℕ) (m : Block) (f : Field) (v : ℕ) → ((a : ℕ) → f ≡ word Cached a → ⊥) → ((d : ℕ) → f ≡ status Cached d → ⊥) → ((d j : ℕ) → f ≡ body Cached d j → ⊥)
    → image_of Cached m n k ≡ image_of Cached (put m f v) n k
unseen n k m f v h l q =
    sym
    (same_image Cached m (put m f v) n k
    (λ j. field_is Cached (λ o. get (put m f v) o ≡ get m o) n j (λ a. get_other m f v (word Cached a) (h a)) (λ d. get_other m f v (status Cached d) (l d)) (λ d i. get_other m f v (body Cached d i) (q d i))))

pub ahead_alike : (m z : Block) (p : RecoveryPlace) → Alike m z → AheadAt m p → AheadAt z p
ahead_alike m z Outside a h = tt
ahead_alike m z (At d done) a h =
    record {
      later = λ e l. a.statuses Persisted e ∙ h.later e l ∙ sym (a.statuses Cached e);
      first = λ e. a.statuses Persisted d ∙ h.first e ∙ sym (a.statuses Cached d);
      living = λ e. a.statuses Persisted d ∙ h.living (rw (a.statuses Cached d) at e) ∙ sym (a.statuses Cached d);
    }

-- what a step's effect leaves, beside the image after it
abbrev Both : ℕ → ℕ → Block → List ℕ → ℕ → Plan (Option ℕ) → Type 0
Both n k m x d q = Beside n k (S.performed m d q.effect) (performed_in x n d q.effect) × AheadAt (S.performed m d q.effect) (place_after k d q.next)

module _ (n k : ℕ) (m : Block) (x : List ℕ) (d done : ℕ) (b : Beside n k m x) (a : Ahead m d done) (g : Good n k x) (r : Reached n k x d done) where
  -- the next descriptor's status is the same in both copies
  visited : (z : Block) → ((e : ℕ) → d < e → get z (status Persisted e) ≡ get z (status Cached e)) → AheadAt z (place_after k d None)
  unfolding visit_after
  visited z h = go (ltb (suc d) k)
    where
      go : (t : Bool) → AheadAt z (cond t (At (suc d) 0) Outside)
      go true = record { later = λ e l. h e (omega arith); first = λ e. h (suc d) (omega arith); living = λ e. h (suc d) (omega arith) }
      go false = tt

  further : Ahead m d (suc done)
  further = record { later = a.later; first = λ e. absurd (omega arith); living = a.living }

  -- a word is stored, or written back
  module _ (c : Copy) (i v : ℕ) where
    word_ahead : (done' : ℕ) → Ahead m d done' → Ahead (put m (word c i) v) d done'
    word_ahead done' h =
        let s : (q : Copy) (e : ℕ) → get (put m (word c i) v) (status q e) ≡ get m (status q e) = (λ q e. get_other m (word c i) v (status q e) (λ f. let z : ◌≡◌ {A = ℕ} 0 1 = cc in omega arith)) in
        record {
          later = λ e l. s Persisted e ∙ h.later e l ∙ sym (s Cached e);
          first = λ e. s Persisted d ∙ h.first e ∙ sym (s Cached d);
          living = λ e. s Persisted d ∙ h.living (rw (s Cached d) at e) ∙ sym (s Cached d);
        }

  word_stored : (i v : ℕ) → i < n → Beside n k (M.put_word m i (Plain v false)) (with_word x i (Plain v false))
  word_stored i v h =
      let z = g.sized in
      let c = z.words in
      let e = b.image in
      beside_put n k m x (with_word x i (Plain v false)) (word Cached i) (word_number (Plain v false)) b (word_somewhere Cached i (omega arith)) (omega arith)
      (λ c e j f. let y : ◌≡◌ {A = ℕ} 0 1 = cc in omega arith)
      (λ f. let y : ◌≡◌ {A = ℕ} 0 1 = cc in omega arith)
      (rw e (word_store m n k b.whole i (Plain v false) h c))

  word_backed : (i : ℕ) → i < n → Beside n k (M.back_word m i) x
  word_backed i h =
      let z = g.sized in
      let c = z.words in
      beside_put n k m x x (word Persisted i) (get m (word Cached i)) b (word_somewhere Persisted i (omega arith)) (b.fits.words i)
      (λ c e j f. let y : ◌≡◌ {A = ℕ} 0 1 = cc in omega arith)
      (λ f. let y : ◌≡◌ {A = ℕ} 0 1 = cc in omega arith)
      (b.image ∙ unseen n k m (word Persisted i) (get m (word Cached i)) (λ o f. let y : ◌≡◌ {A = ℕ} 0 1 = cc in omega arith) (λ o f. let y : ◌≡◌ {A = ℕ} 0 1 = cc in omega arith) (λ o j f. let y : ◌≡◌ {A = ℕ} 0 1 = cc in omega arith))

  status_stored : Beside n k (M.put_status m d Free) (with_status x n d Free)
  status_stored =
      let z = g.sized in
      let c = z.descriptors in
      let h = r.here in
      let e = b.image in
      beside_put n k m x (with_status x n d Free) (status Cached d) 0 b (status_somewhere Cached d (omega arith)) (omega arith)
      (λ c e j f. let y : ◌≡◌ {A = ℕ} 0 1 = cc in omega arith)
      (λ f. let y : ◌≡◌ {A = ℕ} 0 1 = cc in omega arith)
      (rw e (status_store m n k b.whole d Free h c))

  status_backed : Beside n k (M.back_status m d) x
  status_backed =
      let z = g.sized in
      let c = z.descriptors in
      let h = r.here in
      beside_put n k m x x (status Persisted d) (get m (status Cached d)) b (status_somewhere Persisted d (omega arith)) (b.fits.statuses d)
      (λ c e j f. let y : ◌≡◌ {A = ℕ} 0 1 = cc in omega arith)
      (λ f. let y : ◌≡◌ {A = ℕ} 0 1 = cc in omega arith)
      (b.image ∙ unseen n k m (status Persisted d) (get m (status Cached d)) (λ o f. let y : ◌≡◌ {A = ℕ} 0 1 = cc in omega arith) (λ o f. let y : ◌≡◌ {A = ℕ} 0 1 = cc in omega arith) (λ o j f. let y : ◌≡◌ {A = ℕ} 0 1 = cc in omega arith))

  freed_ahead : Ahead (M.put_status m d Free) d (suc done)
  unfolding status_of
  freed_ahead =
      let z = g.sized in
      let c = z.descriptors in
      let h = r.here in
      let s = get_put m (status Cached d) 0 b.whole (status_somewhere Cached d (omega arith)) in
      record {
        later = λ e l.
            get_other m (status Cached d) 0 (status Persisted e) (λ f. let y : ◌≡◌ {A = ℕ} 0 1 = cc in omega arith)
            ∙ a.later e l
            ∙ sym (get_other m (status Cached d) 0 (status Cached e) (λ f. let y : d ≡ e = cc in omega arith));
        first = λ e. absurd (omega arith);
        living = λ e. let j : is_free (status_of 0) ≡ false = rw s at e in let y : ◌≡◌ {A = ℕ} 0 1 = cc in absurd (omega arith);
      }

  backed_later : (e : ℕ) → d < e → get (M.back_status m d) (status Persisted e) ≡ get (M.back_status m d) (status Cached e)
  backed_later e l =
      get_other m (status Persisted d) (get m (status Cached d)) (status Persisted e) (λ f. let y : d ≡ e = cc in omega arith)
      ∙ a.later e l
      ∙ sym (get_other m (status Persisted d) (get m (status Cached d)) (status Cached e) (λ f. let y : ◌≡◌ {A = ℕ} 0 1 = cc in omega arith))

  pub both : Both n k m x d (plan_in x n d done)
  unfolding plan_in seen_in
  both =
      plan_cases d done (seen_in x n d (done / 2)) (Both n k m x d)
      (λ e f. (b, visited m a.later))
      (λ l q z t. (
        word_stored (entry_in (part_of x n d) (done / 2)).address (left_value (status_in (part_of x n d)) (entry_in (part_of x n d) (done / 2))) (entry_at n k x g d done r l q),
        word_ahead Cached (entry_in (part_of x n d) (done / 2)).address (word_number (Plain (left_value (status_in (part_of x n d)) (entry_in (part_of x n d) (done / 2))) false)) (suc done) further,
      ))
      (λ l q z t. (b, further))
      (λ l q z. (
        word_backed (entry_in (part_of x n d) (done / 2)).address (entry_at n k x g d done r l q),
        word_ahead Persisted (entry_in (part_of x n d) (done / 2)).address (get m (word Cached (entry_in (part_of x n d) (done / 2)).address)) (suc done) further,
      ))
      (λ l q z. (status_stored, freed_ahead))
      (λ l q z. (status_backed, visited (M.back_status m d) backed_later))
