-- Each statement of `specs/Demands.antt`, proved. Assumes nothing.
use Prim.Native.Nat.{ℕ}
use mathlib.Core.Path.{◌≡◌, sym, ap, ◌∙◌, subst}
use mathlib.Core.List.{List}
use Rattle.block.specs.Bytes.{IsBytes}
use Rattle.volume.specs.Layout.{lists_of}
use Rattle.volume.specs.Check.{Accepted}
use Rattle.volume.specs.Write.{volume_of}
use Rattle.volume.specs.Demands.{CheckRefuses, ReadRefuses, WriteRefuses, Within, Demand2, ReadsList, ReadsWritten, WriterWrites, Damage, OneToOne, Sample}
use Rattle.volume.proofs.Laws.Check.{good, accepted}
use Rattle.volume.proofs.Laws.CheckFirst.{check-first}
use Rattle.volume.proofs.Laws.ReadFirst.{read_first}
use Rattle.volume.proofs.Laws.WriteFirst.{write-first}
use Rattle.volume.proofs.Laws.Volume.{read_back}
use Rattle.volume.proofs.Laws.Within.{volume-good, volume-lists, good-within}
use Rattle.volume.proofs.Laws.Read.{read_kept, read-laid}
use Rattle.volume.proofs.Laws.Reader as reader
use Rattle.volume.proofs.Laws.WriteAnswer.{write_kept}
use Rattle.volume.proofs.Laws.Writer.{write-laid, writes, writes-every}
use Rattle.volume.proofs.Laws.Damage as changed
use Rattle.volume.proofs.Laws.Answers as answers
use Rattle.volume.proofs.Laws.Sample as computed

pub check-refuses : CheckRefuses
unfolding CheckRefuses
check-refuses = check-first

pub read-refuses : ReadRefuses
unfolding ReadRefuses
read-refuses v i out = record { first = read_first v i _; kept = read_kept v i out; laid = read-laid v i out }

pub write-refuses : WriteRefuses
unfolding WriteRefuses
write-refuses counts postings out = record { first = write-first counts postings _; kept = write_kept counts postings out; laid = write-laid counts postings out }

-- accepted bytes are the volume of their lists
parts : (v : List ℕ) → IsBytes v → (lists : List (List ℕ)) → Accepted v → lists_of v ≡ lists → Within lists × (v ≡ volume_of lists)
parts v bytes lists a e = (subst Within e (good-within v bytes (good v a)), read_back v bytes (good v a) ∙ ap volume_of e)

-- the volume of lists within the limits is accepted and holds them
whole : (v : List ℕ) (lists : List (List ℕ)) → Within lists → v ≡ volume_of lists → Accepted v × (lists_of v ≡ lists)
whole v lists w e = (subst Accepted (sym e) (accepted (volume_of lists) (volume-good lists w)), ap lists_of e ∙ volume-lists lists w)

pub demand2 : Demand2
unfolding Demand2
demand2 v bytes lists = (λ h. parts v bytes lists h.0 h.1, λ h. whole v lists h.0 h.1)

pub reads-list : ReadsList
unfolding ReadsList
reads-list = reader.reads-list

pub reads-written : ReadsWritten
unfolding ReadsWritten
reads-written = reader.reads-written

pub writer-writes : WriterWrites
writer-writes = record { given = writes; every = writes-every }

pub damage : Damage
unfolding Damage
damage v w bv bw a len o differ same = changed.damage v w bv bw len o differ same a

pub one-to-one : OneToOne
one-to-one = answers.one-to-one

pub sample : Sample
sample = computed.sample
