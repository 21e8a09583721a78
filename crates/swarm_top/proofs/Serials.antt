-- The serial history of a script: how long it is, and whether a reply in it is a refusal.
use Rattle.std.proofs.Common.{◌≡◌, ◌≤◌, List, [], ◌∷◌, ◌++◌, length, take, Bool, true, false, ◌||◌, refl, sym, ◌∙◌, ap, subst, arith, nat_lt, append_assoc}
use Rattle.std.specs.List.{list_any}
use Rattle.std.proofs.lemmas.Bool.Decides.{nat_tests}
use Rattle.std.proofs.lemmas.List.{length-append, length-take}
use Rattle.std.proofs.lemmas.List.Folds.{list_any-append}
use Rattle.swarm_input.specs.Script.{Reading}
use Rattle.swarm_lines.proofs.Following.{halted}
use Rattle.swarm_lines.specs.OfScript.{IsOfFullHistory}
use Rattle.swarm_lines.specs.Serial.{entries, entries_from, has_refusal, is_refused, line_entries, serial}
use Rattle.swarm_model.proofs.Base.Halting.{entries-legal}
use Rattle.swarm_model.proofs.Base.Histories.{replay-append}
use Rattle.swarm_model.specs.History.{IsLegal, replay, replay_from, replies_from, step_reply, step_world}
use Rattle.swarm_model.specs.Script.{own_call}
use Rattle.swarm_objects.specs.Limits.{most_entries}
use Rattle.swarm_objects.specs.World.{World, empty_world}
use Rattle.swarm_objects.specs.declared.calls.Call.TheVariants.{Halt}
use Rattle.swarm_objects.specs.declared.calls.Entry.{Entry}
use Rattle.swarm_script.specs.Line.{Line}

-- Halt is not refused.

replies-append : (w : World) (H G : List Entry) → replies_from w (H ++ G) ≡ replies_from w H ++ replies_from (replay_from w H) G
replies-append w [] G = refl
replies-append w (e ∷ H) G = ap (λ rs. step_reply w e ∷ rs) (replies-append (step_world w e) H G)

or_false : (b : Bool) → (b || false) ≡ b
or_false true = refl
or_false false = refl

refused_halt : (H : List Entry) → has_refusal (halted H) ≡ has_refusal H
refused_halt H =
    ap (list_any is_refused) (replies-append empty_world H (own_call Halt ∷ []))
    ∙ list_any-append is_refused (replies_from empty_world H) (replies_from (replay H) (own_call Halt ∷ []))
    ∙ or_false (has_refusal H)

pub refused_said : (s : Reading) (W : List Entry) (b : Bool) → W ≡ serial s.said → has_refusal W ≡ b → has_refusal (entries s.said) ≡ b
refused_said s W b is e = sym (ap has_refusal is ∙ refused_halt (entries s.said)) ∙ e

-- How many entries there are.

few : (H : List Entry) → IsLegal (halted H) → nat_lt most_entries (length H) ≡ false
few H legal =
    let size : length H ≤ 300000 = omega (arith, entries-legal (halted H) legal, length-append H (own_call Halt ∷ [])) in
    grind (arith, nat_tests)

pub few_said : (s : Reading) (W : List Entry) → IsLegal W → W ≡ serial s.said → nat_lt most_entries (length (entries s.said)) ≡ false
few_said s W legal is = few (entries s.said) (subst IsLegal is legal)

entries-append : (w : World) (xs ys : List Line) → entries_from w (xs ++ ys) ≡ entries_from w xs ++ entries_from (replay_from w (entries_from w xs)) ys
entries-append w [] ys = refl
entries-append w (x ∷ xs) ys =
    let es = line_entries w x in
    let v = replay_from w es in
    ap (λ (l : List Entry). es ++ l) (entries-append v xs ys) ∙ sym (append_assoc es (entries_from v xs) (entries_from (replay_from v (entries_from v xs)) ys)) ∙
    ap (λ (u : World). (es ++ entries_from v xs) ++ entries_from u ys) (sym (replay-append w es (entries_from v xs)))

pub many_said : (s : Reading) (W : List Entry) → IsOfFullHistory s W → nat_lt most_entries (length (entries s.said)) ≡ true
many_said s W h =
    let es = line_entries (replay (entries h.done)) h.next in
    let parts = ap entries h.lines ∙ entries-append empty_world h.done (h.next ∷ h.left) in
    let size : 300001 ≤ length (entries s.said) =
    omega (
      arith,
      ap (λ (l : List Entry). length l) parts,
      length-append (entries h.done) (entries_from (replay (entries h.done)) (h.next ∷ h.left)),
      length-append es (entries_from (replay_from (replay (entries h.done)) es) h.left),
      length-append (entries h.done) (take h.part es),
      length-take h.part es,
      h.more,
      h.count,
    ) in
    grind (arith, nat_tests)
