-- What holds of a value that was read.
use Rattle.std.proofs.Common.{◌≡◌, ◌⊎◌, inl, inr, sym, Result, Ok, Err, IfOk}
use Rattle.script_grammar.specs.declared.lines.LineFault.{LineFault}
use Rattle.script_grammar.specs.declared.lines.LineFault.TheVariants.{NoMemory}

-- what holds of each value that is meant holds of the one that is read
pub read_ok : {A : Type 0} (P : A → Type 0) (result meaning : Result A LineFault) → ((x : A) → meaning ≡ Ok x → P x) →
    (result ≡ meaning) ⊎ (result ≡ Err NoMemory) → IfOk result P
read_ok P (Ok x) meaning holds (inl e) = holds x (sym e)
read_ok P (Ok x) meaning holds (inr e) = cc
read_ok P (Err f) meaning holds how = tt
