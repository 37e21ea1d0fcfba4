-- Facts of results.
use Rattle.std.proofs.Common.{Result, Ok, Err}
use Rattle.std.specs.Prelude.{OnOk, OnErr}

-- two facts of an answer Ok
pub on_ok_both : {T E P Q R : Type 0} (r : Result T E) → (P → Q → R) → OnOk r P → OnOk r Q → OnOk r R
on_ok_both (Ok value) f p q = f p q
on_ok_both (Err error) f p q = tt

-- what holds anyway
pub on_ok_any : {T E P : Type 0} (r : Result T E) → P → OnOk r P
on_ok_any (Ok value) p = p
on_ok_any (Err error) p = tt

pub on_err_any : {T E P : Type 0} (r : Result T E) → P → OnErr r P
on_err_any (Ok value) p = tt
on_err_any (Err error) p = p
