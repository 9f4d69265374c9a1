-- The crate `memory`: the contract of every public function, as it is written in src/, asks nothing and gives the equation.
use Rattle.memory.specs.Content.{back_body, back_status, back_word, clear_body, count_in, crash_copied, entry_in, idled, put_count, put_entry, put_recovery, put_status, put_word, put_worker, recovery_in, row_in, status_in, word_in, worker_in}
use Rattle.memory.specs.Fresh.{begun, fresh_of, sizes_in}
use Rattle.memory.specs.Value.{entry_for, value_of}
use Rattle.steps.specs.declared.Worker.TheVariants.{Working}
use Rattle.std.specs.Prelude.{◌≡◌}
use Rattle.memory.proofs.read_sizes.Reads as FnReadSizes
use Rattle.memory.proofs.fresh.Reads as FnFresh
use Rattle.memory.proofs.read_count.Reads as FnReadCount
use Rattle.memory.proofs.put_count.Reads as FnPutCount
use Rattle.memory.proofs.read_entry.Reads as FnReadEntry
use Rattle.memory.proofs.put_entry.Reads as FnPutEntry
use Rattle.memory.proofs.clear_body.Reads as FnClearBody
use Rattle.memory.proofs.back_body.Reads as FnBackBody
use Rattle.memory.proofs.crash_copy.Reads as FnCrashCopy
use Rattle.memory.proofs.find_entry.Reads as FnFindEntry
use Rattle.memory.proofs.value_of.Reads as FnValueOf
use Rattle.memory.proofs.read_word.Reads as FnReadWord
use Rattle.memory.proofs.put_word.Reads as FnPutWord
use Rattle.memory.proofs.back_word.Reads as FnBackWord
use Rattle.memory.proofs.read_status.Reads as FnReadStatus
use Rattle.memory.proofs.put_status.Reads as FnPutStatus
use Rattle.memory.proofs.back_status.Reads as FnBackStatus
use Rattle.memory.proofs.read_row.Reads as FnReadRow
use Rattle.memory.proofs.read_worker.Reads as FnReadWorker
use Rattle.memory.proofs.put_worker.Reads as FnPutWorker
use Rattle.memory.proofs.put_working.Reads as FnPutWorking
use Rattle.memory.proofs.idle_workers.Reads as FnIdleWorkers
use Rattle.memory.proofs.read_recovery.Reads as FnReadRecovery
use Rattle.memory.proofs.put_recovery.Reads as FnPutRecovery

pub read_sizes : (κs m r m' : _) → FnReadSizes.Asked κs (m, tt) × (FnReadSizes.Learnt κs (m, tt) r (m', tt) → r ≡ sizes_in m.now)
read_sizes _ _ _ _ = (tt, λ given. given)

pub fresh : (κs m n k w r m' n' k' w' : _) → FnFresh.Asked κs (m, (n, (k, (w, tt)))) × (FnFresh.Learnt κs (m, (n, (k, (w, tt)))) r (m', (n', (k', (w', tt)))) → begun m'.now r ≡ fresh_of m.now n k w)
fresh _ _ _ _ _ _ _ _ _ _ = (tt, λ given. given)

pub read_count : (κs m c d r m' c' d' : _) → FnReadCount.Asked κs (m, (c, (d, tt))) × (FnReadCount.Learnt κs (m, (c, (d, tt))) r (m', (c', (d', tt))) → r ≡ count_in c m.now d)
read_count _ _ _ _ _ _ _ _ = (tt, λ given. given)

pub put-count : (κs m d n r m' d' n' : _) → FnPutCount.Asked κs (m, (d, (n, tt))) × (FnPutCount.Learnt κs (m, (d, (n, tt))) r (m', (d', (n', tt))) → m'.now ≡ put_count m.now d n)
put-count _ _ _ _ _ _ _ _ = (tt, λ given. given)

pub read_entry : (κs m c d i r m' c' d' i' : _) → FnReadEntry.Asked κs (m, (c, (d, (i, tt)))) × (FnReadEntry.Learnt κs (m, (c, (d, (i, tt)))) r (m', (c', (d', (i', tt)))) → r ≡ entry_in c m.now d i)
read_entry _ _ _ _ _ _ _ _ _ _ = (tt, λ given. given)

pub put-entry : (κs m d i e r m' d' i' e' : _) → FnPutEntry.Asked κs (m, (d, (i, (e, tt)))) × (FnPutEntry.Learnt κs (m, (d, (i, (e, tt)))) r (m', (d', (i', (e', tt)))) → m'.now ≡ put_entry m.now d i e)
put-entry _ _ _ _ _ _ _ _ _ _ = (tt, λ given. given)

pub clear-body : (κs m d r m' d' : _) → FnClearBody.Asked κs (m, (d, tt)) × (FnClearBody.Learnt κs (m, (d, tt)) r (m', (d', tt)) → m'.now ≡ clear_body m.now d)
clear-body _ _ _ _ _ _ = (tt, λ given. given)

pub back-body : (κs m d r m' d' : _) → FnBackBody.Asked κs (m, (d, tt)) × (FnBackBody.Learnt κs (m, (d, tt)) r (m', (d', tt)) → m'.now ≡ back_body m.now d)
back-body _ _ _ _ _ _ = (tt, λ given. given)

pub crash_copy : (κs m r m' : _) → FnCrashCopy.Asked κs (m, tt) × (FnCrashCopy.Learnt κs (m, tt) r (m', tt) → m'.now ≡ crash_copied m.now)
crash_copy _ _ _ _ = (tt, λ given. given)

pub find_entry : (κs m c d a r m' c' d' a' : _) → FnFindEntry.Asked κs (m, (c, (d, (a, tt)))) × (FnFindEntry.Learnt κs (m, (c, (d, (a, tt)))) r (m', (c', (d', (a', tt)))) → r ≡ entry_for c m.now d a)
find_entry _ _ _ _ _ _ _ _ _ _ = (tt, λ given. given)

pub value-of : (κs m a r m' a' : _) → FnValueOf.Asked κs (m, (a, tt)) × (FnValueOf.Learnt κs (m, (a, tt)) r (m', (a', tt)) → r ≡ value_of m.now a)
value-of _ _ _ _ _ _ = (tt, λ given. given)

pub read_word : (κs m c a r m' c' a' : _) → FnReadWord.Asked κs (m, (c, (a, tt))) × (FnReadWord.Learnt κs (m, (c, (a, tt))) r (m', (c', (a', tt))) → r ≡ word_in c m.now a)
read_word _ _ _ _ _ _ _ _ = (tt, λ given. given)

pub put-word : (κs m a s r m' a' s' : _) → FnPutWord.Asked κs (m, (a, (s, tt))) × (FnPutWord.Learnt κs (m, (a, (s, tt))) r (m', (a', (s', tt))) → m'.now ≡ put_word m.now a s)
put-word _ _ _ _ _ _ _ _ = (tt, λ given. given)

pub back-word : (κs m a r m' a' : _) → FnBackWord.Asked κs (m, (a, tt)) × (FnBackWord.Learnt κs (m, (a, tt)) r (m', (a', tt)) → m'.now ≡ back_word m.now a)
back-word _ _ _ _ _ _ = (tt, λ given. given)

pub read_status : (κs m c d r m' c' d' : _) → FnReadStatus.Asked κs (m, (c, (d, tt))) × (FnReadStatus.Learnt κs (m, (c, (d, tt))) r (m', (c', (d', tt))) → r ≡ status_in c m.now d)
read_status _ _ _ _ _ _ _ _ = (tt, λ given. given)

pub put-status : (κs m d s r m' d' s' : _) → FnPutStatus.Asked κs (m, (d, (s, tt))) × (FnPutStatus.Learnt κs (m, (d, (s, tt))) r (m', (d', (s', tt))) → m'.now ≡ put_status m.now d s)
put-status _ _ _ _ _ _ _ _ = (tt, λ given. given)

pub back-status : (κs m d r m' d' : _) → FnBackStatus.Asked κs (m, (d, tt)) × (FnBackStatus.Learnt κs (m, (d, tt)) r (m', (d', tt)) → m'.now ≡ back_status m.now d)
back-status _ _ _ _ _ _ = (tt, λ given. given)

pub read_row : (κs m w r m' w' : _) → FnReadRow.Asked κs (m, (w, tt)) × (FnReadRow.Learnt κs (m, (w, tt)) r (m', (w', tt)) → r ≡ row_in m.now w)
read_row _ _ _ _ _ _ = (tt, λ given. given)

pub read_worker : (κs m w r m' w' : _) → FnReadWorker.Asked κs (m, (w, tt)) × (FnReadWorker.Learnt κs (m, (w, tt)) r (m', (w', tt)) → r ≡ worker_in m.now w)
read_worker _ _ _ _ _ _ = (tt, λ given. given)

pub put-worker : (κs m w x r m' w' x' : _) → FnPutWorker.Asked κs (m, (w, (x, tt))) × (FnPutWorker.Learnt κs (m, (w, (x, tt))) r (m', (w', (x', tt))) → m'.now ≡ put_worker m.now w x)
put-worker _ _ _ _ _ _ _ _ = (tt, λ given. given)

pub put_working : (κs m w o job p r m' w' o' job' p' : _) → FnPutWorking.Asked κs (m, (w, (o, (job, (p, tt))))) × (FnPutWorking.Learnt κs (m, (w, (o, (job, (p, tt))))) r (m', (w', (o', (job', (p', tt))))) → m'.now ≡ put_worker m.now w (Working o job p))
put_working _ _ _ _ _ _ _ _ _ _ _ _ = (tt, λ given. given)

pub idle_workers : (κs m r m' : _) → FnIdleWorkers.Asked κs (m, tt) × (FnIdleWorkers.Learnt κs (m, tt) r (m', tt) → m'.now ≡ idled m.now 8)
idle_workers _ _ _ _ = (tt, λ given. given)

pub read_recovery : (κs m r m' : _) → FnReadRecovery.Asked κs (m, tt) × (FnReadRecovery.Learnt κs (m, tt) r (m', tt) → r ≡ recovery_in m.now)
read_recovery _ _ _ _ = (tt, λ given. given)

pub put-recovery : (κs m p r m' p' : _) → FnPutRecovery.Asked κs (m, (p, tt)) × (FnPutRecovery.Learnt κs (m, (p, tt)) r (m', (p', tt)) → m'.now ≡ put_recovery m.now p)
put-recovery _ _ _ _ _ _ = (tt, λ given. given)
