-- The crate `word`: the contract of every public function, as it is written in src/, asks nothing and gives the equation.
use Rattle.word.specs.Status.{status_cleared, status_number, status_of}
use Rattle.word.specs.Word.{plain_word, pointer_word, sort_of, word_cleared, word_number}
use Rattle.std.specs.Prelude.{◌≡◌}
use Rattle.word.proofs.sort_of.Reads as FnSortOf
use Rattle.word.proofs.plain_word.Reads as FnPlainWord
use Rattle.word.proofs.pointer_word.Reads as FnPointerWord
use Rattle.word.proofs.word_number.Reads as FnWordNumber
use Rattle.word.proofs.word_cleared.Reads as FnWordCleared
use Rattle.word.proofs.status_of.Reads as FnStatusOf
use Rattle.word.proofs.status_number.Reads as FnStatusNumber
use Rattle.word.proofs.status_cleared.Reads as FnStatusCleared

pub sort-of : (κs w r w' : _) → FnSortOf.Asked κs (w, tt) × (FnSortOf.Learnt κs (w, tt) r (w', tt) → r ≡ sort_of w)
sort-of _ _ _ _ = (tt, λ given. given)

pub plain-word : (κs v dirty r v' dirty' : _) → FnPlainWord.Asked κs (v, (dirty, tt)) × (FnPlainWord.Learnt κs (v, (dirty, tt)) r (v', (dirty', tt)) → r ≡ plain_word v dirty)
plain-word _ _ _ _ _ _ = (tt, λ given. given)

pub pointer-word : (κs d dirty r d' dirty' : _) → FnPointerWord.Asked κs (d, (dirty, tt)) × (FnPointerWord.Learnt κs (d, (dirty, tt)) r (d', (dirty', tt)) → r ≡ pointer_word d dirty)
pointer-word _ _ _ _ _ _ = (tt, λ given. given)

pub word-number : (κs s r s' : _) → FnWordNumber.Asked κs (s, tt) × (FnWordNumber.Learnt κs (s, tt) r (s', tt) → r ≡ word_number s)
word-number _ _ _ _ = (tt, λ given. given)

pub word-cleared : (κs s r s' : _) → FnWordCleared.Asked κs (s, tt) × (FnWordCleared.Learnt κs (s, tt) r (s', tt) → r ≡ word_cleared s)
word-cleared _ _ _ _ = (tt, λ given. given)

pub status-of : (κs x r x' : _) → FnStatusOf.Asked κs (x, tt) × (FnStatusOf.Learnt κs (x, tt) r (x', tt) → r ≡ status_of x)
status-of _ _ _ _ = (tt, λ given. given)

pub status-number : (κs s r s' : _) → FnStatusNumber.Asked κs (s, tt) × (FnStatusNumber.Learnt κs (s, tt) r (s', tt) → r ≡ status_number s)
status-number _ _ _ _ = (tt, λ given. given)

pub status-cleared : (κs s r s' : _) → FnStatusCleared.Asked κs (s, tt) × (FnStatusCleared.Learnt κs (s, tt) r (s', tt) → r ≡ status_cleared s)
status-cleared _ _ _ _ = (tt, λ given. given)
