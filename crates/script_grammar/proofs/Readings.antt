-- Lines of scripts, and words that are wrong.
use Rattle.std.proofs.Common.{◌≡◌, ℕ, List, [], ◌∷◌, ◌++◌, codes, refl, Some, None}
use Rattle.std.specs.Fmt.{digits}
use Rattle.std.specs.Prelude.{Ok, Err}
use Rattle.swarm_objects.specs.declared.calls.Call.TheVariants as call
use Rattle.swarm_objects.specs.declared.calls.Op.TheVariants as op
use Rattle.swarm_objects.specs.declared.nodes.Availability.TheVariants as availability
use Rattle.swarm_objects.specs.declared.nodes.NodeRole.TheVariants as role
use Rattle.script_grammar.specs.declared.lines.Line.TheVariants as line
use Rattle.script_grammar.specs.declared.lines.LineFault.{LineFault}
use Rattle.script_grammar.specs.declared.lines.LineFault.TheVariants as fault
use Rattle.script_grammar.specs.Entries.{entry_meaning}
use Rattle.script_grammar.specs.Lines.{meaning_of}

abbrev IsWrong : List ℕ → LineFault → Type 0
IsWrong text f = meaning_of text ≡ Err f

-- a journal's line, without its newline
abbrev IsWrongEntry : List ℕ → LineFault → Type 0
IsWrongEntry text f = entry_meaning (text ++ codes "\n") ≡ Err f

-- Lines of scripts.

empty : meaning_of (codes "") ≡ Ok (line.Blank)
unfolding digits
empty = refl

comment : meaning_of (codes "# node  join") ≡ Ok (line.Blank)
unfolding digits
comment = refl

wait : meaning_of (codes "wait 86400000") ≡ Ok (line.Wait 86400000)
unfolding digits
wait = refl

settle : meaning_of (codes "settle") ≡ Ok (line.Settle 100000)
unfolding digits
settle = refl

settle_usual : meaning_of (codes "settle 100000") ≡ Ok (line.Settle 100000)
unfolding digits
settle_usual = refl

settle_of : meaning_of (codes "settle 1") ≡ Ok (line.Settle 1)
unfolding digits
settle_of = refl

any_order : meaning_of (codes "node update n1 availability=drain label=b:x role=manager label=a:y") ≡ Ok (line.Call (call.Txn (op.UpdateNode (codes "n1") None ((codes "a", codes "y") ∷ (codes "b", codes "x") ∷ []) role.Manager availability.Drain ∷ [])))
unfolding digits
any_order = refl

session_any_order : meaning_of (codes "remote open n1 mem=0 cpu=1") ≡ Ok (line.Call (call.RemoteBegin (codes "n1") (Some 1) (Some 0)))
unfolding digits
session_any_order = refl

great_subnet : meaning_of (codes "network create a subnet=255.255.255.255/255") ≡ Ok (line.Call (call.Txn (op.CreateNetwork (codes "a") 4294967295 255 ∷ [])))
unfolding digits
great_subnet = refl

-- Wrong words, and lines that end too early.

group_twice : IsWrong (codes "service create web replicas=1 global") (fault.Word 5)
unfolding digits
group_twice = refl

two_spaces : IsWrong (codes "node  join n1") (fault.Word 2)
unfolding digits
two_spaces = refl

cut : IsWrong (codes "node join") fault.Cut
unfolding digits
cut = refl

great_port : IsWrong (codes "service create web port=70000") (fault.Word 4)
unfolding digits
great_port = refl

space_first : IsWrong (codes " clock") (fault.Word 1)
unfolding digits
space_first = refl

space_last : IsWrong (codes "clock ") (fault.Word 2)
unfolding digits
space_last = refl

cut_transaction : IsWrong (codes "node remove a ;") fault.Cut
unfolding digits
cut_transaction = refl

cut_list : IsWrong (codes "list") fault.Cut
unfolding digits
cut_list = refl

cut_range : IsWrong (codes "network create a") fault.Cut
unfolding digits
cut_range = refl

cut_report : IsWrong (codes "remote status n1 3 5") fault.Cut
unfolding digits
cut_report = refl

no_operation : IsWrong (codes "node remove a ; list nodes") (fault.Word 5)
unfolding digits
no_operation = refl

no_call_behind : IsWrong (codes "node remove a ; node fail b") (fault.Word 6)
unfolding digits
no_call_behind = refl

no_transaction : IsWrong (codes "list nodes ; clock") (fault.Word 3)
unfolding digits
no_transaction = refl

session_then : IsWrong (codes "remote open n1 ; clock") (fault.Word 4)
unfolding digits
session_then = refl

label_twice : IsWrong (codes "node join n1 label=a:b label=a:c") (fault.Word 5)
unfolding digits
label_twice = refl

field_twice : IsWrong (codes "service create web cpu=1 mem=1 cpu=1") (fault.Word 6)
unfolding digits
field_twice = refl

end_twice : IsWrong (codes "service create web reject exit=1:0") (fault.Word 5)
unfolding digits
end_twice = refl

session_twice : IsWrong (codes "remote open n1 cpu=1 cpu=1") (fault.Word 5)
unfolding digits
session_twice = refl

not_its_field : IsWrong (codes "node update n1 cpu=1") (fault.Word 4)
unfolding digits
not_its_field = refl

version_late : IsWrong (codes "service update web cpu=1 @3") (fault.Word 5)
unfolding digits
version_late = refl

version_twice : IsWrong (codes "service update web @3 @3") (fault.Word 5)
unfolding digits
version_twice = refl

version_of_new : IsWrong (codes "service create web @3") (fault.Word 4)
unfolding digits
version_of_new = refl

force_twice : IsWrong (codes "node remove a force force") (fault.Word 5)
unfolding digits
force_twice = refl

great_number : IsWrong (codes "tick 18446744073709551616") (fault.Word 2)
unfolding digits
great_number = refl

leading_zero : IsWrong (codes "tick 01") (fault.Word 2)
unfolding digits
leading_zero = refl

signed : IsWrong (codes "tick +1") (fault.Word 2)
unfolding digits
signed = refl

wait_none : IsWrong (codes "wait 0") (fault.Word 2)
unfolding digits
wait_none = refl

wait_long : IsWrong (codes "wait 86400001") (fault.Word 2)
unfolding digits
wait_long = refl

settle_none : IsWrong (codes "settle 0") (fault.Word 2)
unfolding digits
settle_none = refl

settle_more : IsWrong (codes "settle 100001") (fault.Word 2)
unfolding digits
settle_more = refl

great_part : IsWrong (codes "network create a subnet=10.0.0.256/16") (fault.Word 4)
unfolding digits
great_part = refl

great_length : IsWrong (codes "network create a subnet=10.0.0.0/256") (fault.Word 4)
unfolding digits
great_length = refl

great_code : IsWrong (codes "service create web exit=1:256") (fault.Word 4)
unfolding digits
great_code = refl

host_without : IsWrong (codes "service create web host=80") (fault.Word 4)
unfolding digits
host_without = refl

no_name : IsWrong (codes "node join -n") (fault.Word 3)
unfolding digits
no_name = refl

no_halt : IsWrong (codes "halt") (fault.Word 1)
unfolding digits
no_halt = refl

no_duty : IsWrong (codes "duty agents beat 1") (fault.Word 1)
unfolding digits
no_duty = refl

no_watcher : IsWrong (codes "watch open watcher") (fault.Word 3)
unfolding digits
no_watcher = refl

two_ids : IsWrong (codes "watch open node 1 2") (fault.Word 5)
unfolding digits
two_ids = refl

small_state : IsWrong (codes "remote status n1 3 5 running") (fault.Word 6)
unfolding digits
small_state = refl

no_constraint : IsWrong (codes "service create web constraint=node.ip==1") (fault.Word 4)
unfolding digits
no_constraint = refl

no_value : IsWrong (codes "service create web constraint=node.role==") (fault.Word 4)
unfolding digits
no_value = refl

-- Entries of journals.

entry_blank : IsWrongEntry (codes "") (fault.Word 1)
unfolding digits
entry_blank = refl

entry_comment : IsWrongEntry (codes "# x") (fault.Word 1)
unfolding digits
entry_comment = refl

entry_cut : IsWrongEntry (codes "0") fault.Cut
unfolding digits
entry_cut = refl

entry_wait : IsWrongEntry (codes "0 wait 1") (fault.Word 2)
unfolding digits
entry_wait = refl

default_written : IsWrongEntry (codes "0 service create web cpu=5 mem=0") (fault.Word 6)
unfolding digits
default_written = refl

out_of_order : IsWrongEntry (codes "0 service create web mem=5 cpu=3") (fault.Word 6)
unfolding digits
out_of_order = refl

usual_mode : IsWrongEntry (codes "0 service create web replicas=1") (fault.Word 5)
unfolding digits
usual_mode = refl

loud : IsWrongEntry (codes "0 service create web constraint=Node.role==x") (fault.Word 5)
unfolding digits
loud = refl

usual_budget : IsWrongEntry (codes "0 settle 100000") (fault.Word 3)
unfolding digits
usual_budget = refl

usual_node : IsWrongEntry (codes "0 node join n1 role=worker") (fault.Word 5)
unfolding digits
usual_node = refl

falling_labels : IsWrongEntry (codes "0 node join n1 label=b:x label=a:x") (fault.Word 6)
unfolding digits
falling_labels = refl

session_order : IsWrongEntry (codes "0 remote open n1 mem=1 cpu=1") (fault.Word 6)
unfolding digits
session_order = refl

duty_cut : IsWrongEntry (codes "0 duty update swap 1") fault.Cut
unfolding digits
duty_cut = refl

duty_more : IsWrongEntry (codes "0 duty agents beat 1 2") (fault.Word 6)
unfolding digits
duty_more = refl

duty_loop : IsWrongEntry (codes "0 duty agent beat 1") (fault.Word 3)
unfolding digits
duty_loop = refl

duty_kind : IsWrongEntry (codes "0 duty agents create 1") (fault.Word 4)
unfolding digits
duty_kind = refl

duty_port : IsWrongEntry (codes "0 duty allocator port 1 65536 0") (fault.Word 6)
unfolding digits
duty_port = refl

duty_protocol : IsWrongEntry (codes "0 duty allocator port 1 80 2") (fault.Word 7)
unfolding digits
duty_protocol = refl

-- without its newline, a word goes before the end
no_newline : entry_meaning (codes "0 halt") ≡ Err fault.Cut
unfolding digits
no_newline = refl

no_newline_word : entry_meaning (codes "0 halt 1") ≡ Err (fault.Word 3)
unfolding digits
no_newline_word = refl

no_byte : entry_meaning (7 ∷ []) ≡ Err fault.Byte
unfolding digits
no_byte = refl
