-- The rules that change one word keep the invariant.
use Rattle.std.specs.Prelude.{◌≡◌, Bool, true, false, ℕ}
use Rattle.std.proofs.Common.{sym, ◌∙◌}
use Rattle.word.specs.declared.Outcome.TheVariants.{Succeeded}
use Rattle.word.specs.declared.Status.TheVariants.{Free, Undecided, Decided}
use Rattle.memory.specs.declared.Copy.{Copy}
use Rattle.memory.specs.declared.Copy.TheVariants.{Cached, Persisted}
use Rattle.memory.specs.Value.{succeeded}
use Rattle.ledger.specs.Update.{clash, in_frame}
use Rattle.ledger.specs.Cells.{Cell, plain, pointer, Belongs, Cells, set_word}
use Rattle.ledger.specs.Meaning.{Has, expected_of, stands, means}
use Rattle.ledger.specs.Agree.{Live, AllBelong, NoneBelongs, pair_map, Agrees}

module _ (M : Cells) (L : ℕ → ℕ) (In : ℕ → Bool) (Differed : ℕ → Type 0) (g : Agrees M L In Differed) where
  -- a new content of a word, that means what the old did and belongs to a live descriptor
  pub word_changed : (k : Copy) (a : ℕ) (x : Cell) → means M a x ≡ L a → Live M a x
      → ((d : ℕ) → M.status Cached d ≡ Decided Succeeded true → M.status Persisted d ≡ Undecided → AllBelong M d → Has (M.body Persisted d) a → Belongs d x)
      → ((d : ℕ) → M.status Cached d ≡ Free → NoneBelongs M d → ¬ (Belongs d x))
      → Agrees (set_word M k a x) L In Differed
  word_changed k a x v l p q = record {
    value = in_frame (λ c b y. means M b y ≡ L b) {f = M.word} k {x = x} g.value v;
    live = in_frame (λ c b y. Live M b y) k g.live l;
    pair = λ d. pair_map
        (λ e f all. in_frame (λ c b y. Has (M.body Persisted d) b → Belongs d y) k all (p d e f all))
        (λ e none. in_frame (λ c b y. ¬ (Belongs d y)) k none (q d e none))
        (g.pair d);
    body = g.body;
    failed = g.failed;
    entered = g.entered;
    waiting = g.waiting;
  }

  -- write back the word a
  pub back-word : (a : ℕ) → Agrees (set_word M Persisted a (M.word Cached a)) L In Differed
  back-word a = word_changed Persisted a (M.word Cached a) (g.value Cached a) (g.live Cached a) (λ d e f all. all Cached a) (λ d e none. none Cached a)

  -- install: d is undecided and has the address a, and the word there is its expected value
  pub install : (d a : ℕ) → M.status Cached d ≡ Undecided → M.status Persisted d ≡ Undecided → Has (M.body Persisted d) a → M.word Cached a ≡ plain (expected_of (M.body Persisted d) a)
      → Agrees (set_word M Cached a (pointer d)) L In Differed
  install d a s u m e = word_changed Cached a (pointer d)
      (rw u (rw e at (g.value Cached a)))
      (λ f p. let q : d ≡ f = cc in rw (← q) (λ z. clash (cc), m))
      (λ f _ _ all n. let z : plain (expected_of (M.body Persisted d) a) ≡ pointer f = sym e ∙ all Cached a n in clash (cc))
      (λ f z none b. let q : d ≡ f = cc in clash (cc))

  -- swap: a word that belongs to d becomes what it stands for
  pub swap : (d a : ℕ) → Belongs d (M.word Cached a) → succeeded (M.status Cached d) ≡ succeeded (M.status Persisted d)
      → Agrees (set_word M Cached a (plain (stands (M.status Persisted d) (M.body Persisted d) a))) L In Differed
  swap d a e w = word_changed Cached a _ (rw e at (g.value Cached a)) (λ f p. clash (cc))
      (λ f c p all n. let z : pointer d ≡ pointer f = sym e ∙ all Cached a n in let y : d ≡ f = cc in let x : true ≡ false = rw (y, c, p) at w in clash (cc))
      (λ f z none b. clash (cc))
