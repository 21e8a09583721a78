-- Duties change the tables alone.
use Rattle.std.proofs.Common.{refl}
use Rattle.swarm_objects.specs.declared.duties.Duty.TheVariants as duty
use Rattle.swarm_objects.specs.Effects.{TablesLaw}
use Rattle.swarm_objects.specs.Usable.{UsableLaw}

pub tables_law : TablesLaw
tables_law version w (duty.Expire n) other = refl
tables_law version w (duty.Orphan x) other = refl
tables_law version w (duty.Reject x) other = refl
tables_law version w (duty.Restart x) other = refl
tables_law version w (duty.Raise x) other = refl
tables_law version w (duty.Start s) other = refl
tables_law version w (duty.Fail s) other = refl
tables_law version w (duty.Swap s p) other = refl
tables_law version w (duty.Replace s p) other = refl
tables_law version w (duty.Finish s) other = refl
tables_law version w (duty.Gone x) other = refl
tables_law version w (duty.Down s k) other = refl
tables_law version w (duty.ReplicatedCreate s k) other = refl
tables_law version w (duty.Leave s n) other = refl
tables_law version w (duty.GlobalCreate s n) other = refl
tables_law version w (duty.Old x) other = refl
tables_law version w (duty.JobCreate s k) other = refl
tables_law version w (duty.Port s target udp) other = refl
tables_law version w (duty.Address x) other = refl
tables_law version w (duty.Note x) other = refl
tables_law version w (duty.Drop x) other = refl
tables_law version w (duty.Place x n) other = refl
tables_law version w (duty.Explain x) other = refl
tables_law version w (duty.Delete x) other = refl
tables_law version w (duty.Trim x) other = refl
tables_law version w (duty.Register n) other = absurd cc
tables_law version w (duty.Beat n) other = absurd cc
tables_law version w (duty.Apply n) other = absurd cc
tables_law version w (duty.Pull n) other = absurd cc
tables_law version w (duty.Exec n x) other = absurd cc
tables_law version w (duty.Report n x) other = absurd cc
tables_law version w (duty.Forget n x) other = absurd cc

pub usable_law : UsableLaw
usable_law w sound small = record { sound = sound; next_id = small.next_id; clock = small.clock; times = small.times }
