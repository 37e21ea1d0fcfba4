-- What a fault rests on, where other calls came before.
use Rattle.std.proofs.Common.{◌≡◌, ℕ, ◌≤◌, Result, Ok, Err, ap, arith}
use Rattle.ls_base.specs.Fault.{Rose}
use Rattle.checkpointer.specs.declared.fault.BackfillFault.{BackfillFault}
use Rattle.checkpointer.specs.declared.fault.BackfillFault.TheVariants.{Disk}
use Rattle.checkpointer.specs.Fault.{BackfillHasCause}

pub rose_after : (before mid now : ℕ) → before ≤ mid → Rose mid now → Rose before now
rose_after before mid now later rose = record { least = omega (arith, later, rose.least) }

pub cause_after : {T : Type 0} (before mid now : ℕ) (result : Result T BackfillFault) → before ≤ mid
    → BackfillHasCause mid now result → BackfillHasCause before now result
cause_after before mid now result earlier cause = record {
  later = omega (arith, earlier, cause.later);
  rose = λ fault is. rose_after before mid now earlier (cause.rose fault is);
}

pub err_cause : {T U : Type 0} (before now : ℕ) (fault : BackfillFault)
    → BackfillHasCause {T = T} before now (Err fault) → BackfillHasCause {T = U} before now (Err fault)
err_cause before now fault cause = record {
  later = cause.later;
  rose = λ f is. let same : fault ≡ Disk f = cc in cause.rose f (ap (λ (e : BackfillFault). Err e) same);
}

pub ok_cause : {T : Type 0} (before now : ℕ) (x : T) → before ≤ now → BackfillHasCause {T = T} before now (Ok x)
ok_cause before now x later = record { later = later; rose = λ f is. absurd cc }
