-- The settle answer taken apart: what is empty in a world at rest, in a quiet one and in a settled one.
use Rattle.std.proofs.Common.{Bool, List, None, Option, Some, [], ap, cond, false, inl, inr, refl, sym, true, ◌++◌, ◌∙◌, ◌∷◌, ◌≡◌}
use Rattle.std.specs.Option.{option_map}
use Rattle.std.specs.Prelude.{find, flat_map, option_to_list}
use Rattle.std.specs.declared.cmp.Ordering.{Ordering}
use Rattle.std.specs.Ordering.{is_lt}
use Rattle.swarm_settle.specs.Rest.{IsAtRest, IsQuiet, IsSettled}
use Rattle.swarm_model.proofs.Base.IsDuty.{IsDuty}
use Rattle.swarm_model.proofs.Base.ToLists.{Has-IsDuty}
use Rattle.swarm_model.proofs.Following.First.{first_of_named}
use Rattle.swarm_model.proofs.SettleLaws.{nothing_first}
use Rattle.swarm_model.specs.Settle.{Wait, executor_wait, first_wait, held_answer, held_by, idle_answer, is_holding, is_paused, paused_by, remote_wait, session_wait, settle_answer, start_wait, update_wait, wait_cmp, waiting_answer, waits}
use Rattle.swarm_objects.proofs.Empty.{append_empty, empty-has, flat_map_empty}
use Rattle.swarm_objects.proofs.RowLemmas.{Has-append_cases, Has-flat_map_cases}
use Rattle.swarm_objects.specs.Duties.{duties, first_duty}
use Rattle.swarm_objects.specs.Kinds.{duty_named, role_of, roles}
use Rattle.swarm_objects.specs.Rows.{Has, first_of, least_by, on_row}
use Rattle.swarm_objects.specs.Services.Runs.{has_open_run}
use Rattle.swarm_objects.specs.World.{World}
use Rattle.swarm_objects.specs.declared.agents.NodeAgent.{NodeAgent}
use Rattle.swarm_objects.specs.declared.duties.Duty.{Duty}
use Rattle.swarm_objects.specs.declared.duties.Settle.TheVariants as settle
use Rattle.swarm_objects.specs.declared.duties.Settle.{Settle}
use Rattle.swarm_objects.specs.declared.loops.Role.TheVariants as role
use Rattle.swarm_objects.specs.declared.loops.Role.{Role}
use Rattle.swarm_objects.specs.declared.nodes.Node.{Node}
use Rattle.swarm_objects.specs.declared.services.Service.{Service}
use Rattle.swarm_objects.specs.declared.tasks.Task.{Task}

-- No duty.

has-role : (r : Role) → Has roles r
has-role role.Dispatcher = inl refl
has-role role.Enforcer = inr (inl refl)
has-role role.Restart = inr (inr (inl refl))
has-role role.Update = inr (inr (inr (inl refl)))
has-role role.Replicated = inr (inr (inr (inr (inl refl))))
has-role role.Global = inr (inr (inr (inr (inr (inl refl)))))
has-role role.Job = inr (inr (inr (inr (inr (inr (inl refl))))))
has-role role.Allocator = inr (inr (inr (inr (inr (inr (inr (inl refl)))))))
has-role role.Scheduler = inr (inr (inr (inr (inr (inr (inr (inr (inl refl))))))))
has-role role.Reaper = inr (inr (inr (inr (inr (inr (inr (inr (inr (inl refl)))))))))
has-role role.Agents = inr (inr (inr (inr (inr (inr (inr (inr (inr (inr (inl refl))))))))))

-- what is a duty is none in a world at rest
pub no-duty : (w : World) → IsAtRest w → (d : Duty) → ¬ (IsDuty w d)
no-duty w e d is =
    empty-has (duties (role_of d) w) d (nothing_first w roles (role_of d) e (has-role (role_of d))) (Has-IsDuty w d is)

-- nor does its settle test name one
pub names-none : (w : World) → IsAtRest w → duty_named (settle_answer w) ≡ None
names-none w e = go (duty_named (settle_answer w)) refl
  where
    go : (o : Option Duty) → duty_named (settle_answer w) ≡ o → o ≡ None
    go None is = refl
    go (Some d) is =
        sym (first_of_named w d is) ∙ ap first_of (nothing_first w roles (role_of d) e (has-role (role_of d)))

-- The answer.

least-some : {X : Type 0} (compare : X → X → Ordering) (best : X) (xs : List X) → ¬
    (least_by compare (Some best) xs ≡ None)
least-some compare best [] e = cc
least-some compare best (x ∷ xs) e =
    go (is_lt (compare x best)) (least-some compare x xs) (least-some compare best xs) e
  where
    go : (b : Bool) → ¬ (least_by compare (Some x) xs ≡ None) → ¬ (least_by compare (Some best) xs ≡ None) →
        ¬ (least_by compare (cond b (Some x) (Some best)) xs ≡ None)
    go true new old n = new n
    go false new old n = old n

-- a list with no least item is empty
pub least-none : {X : Type 0} (compare : X → X → Ordering) (xs : List X) → least_by compare None xs ≡ None → xs ≡ []
least-none compare [] e = refl
least-none compare (x ∷ xs) e = absurd (least-some compare x xs e)

-- none of the answers says that all is settled
abbrev AreOthers : List Settle → Type 0
AreOthers xs = (x : Settle) → Has xs x → ¬ (x ≡ settle.Settled)

none-before : (xs : List Settle) → AreOthers xs → on_row settle.Settled (λ (a : Settle). a)
    (first_of (xs ++ settle.Settled ∷ [])) ≡ settle.Settled →
    xs ≡ []
none-before [] others e = refl
none-before (x ∷ xs) others e = absurd (others x (inl refl) e)

waiting-others : (o : Option Wait) → AreOthers (waiting_answer o)
waiting-others None x h e = h
waiting-others (Some y) x (inl k) e = let same : settle.Waiting y.time y.cause y.id ≡ settle.Settled = k ∙ e in cc
waiting-others (Some y) x (inr k) e = k

held-others : (w : World) (x : Settle) → Has (flat_map (held_by w.tables) w.tables.services) x → ¬ (x ≡ settle.Settled)
held-others w x h e =
    let of = Has-flat_map_cases (held_by w.tables) w.tables.services x h in
    go of.0 (has_open_run of.0) (find (is_holding of.0) w.tables.tasks) of.2
  where
    go : (s : Service) (b : Bool) (o : Option Task) →
        ¬ (Has (cond b (option_to_list (option_map (held_answer s.id) o)) []) x)
    go s true (Some y) (inl k) = let same : settle.Held s.id y.id ≡ settle.Settled = k ∙ e in cc
    go s true (Some y) (inr k) = k
    go s true None k = k
    go s false o k = k

paused-others : (w : World) (x : Settle) → Has (flat_map paused_by w.tables.services) x → ¬ (x ≡ settle.Settled)
paused-others w x h e =
    let of = Has-flat_map_cases paused_by w.tables.services x h in
    go of.0 (is_paused of.0) of.2
  where
    go : (s : Service) (b : Bool) → ¬ (Has (cond b (settle.Paused s.id ∷ []) []) x)
    go s true (inl k) = let same : settle.Paused s.id ≡ settle.Settled = k ∙ e in cc
    go s true (inr k) = k
    go s false k = k

-- what is answered where no role has a duty, but for the last one
abbrev earlier : World → List Settle
earlier w =
    waiting_answer (first_wait w) ++ flat_map (held_by w.tables) w.tables.services
    ++ flat_map paused_by w.tables.services

earlier-others : (w : World) → AreOthers (earlier w)
earlier-others w x h e =
    elim (Has-append_cases (waiting_answer (first_wait w) ++ flat_map (held_by w.tables) w.tables.services) _ x h) [
      | inl k ↦ elim (Has-append_cases (waiting_answer (first_wait w)) _ x k) [
        | inl j ↦ waiting-others (first_wait w) x j e
        | inr j ↦ held-others w x j e
      ]
      | inr k ↦ paused-others w x k e
    ]

settled-rest : (w : World) → IsSettled w → IsAtRest w × (earlier w ≡ [])
settled-rest w is = go (first_duty w roles) refl is
  where
    go : (o : Option Duty) → first_duty w roles ≡ o →
        elim o [ Some d ↦ settle.Busy d | None ↦ idle_answer w ] ≡ settle.Settled → IsAtRest w × (earlier w ≡ [])
    go None e k = (e, none-before (earlier w) (earlier-others w) k)
    go (Some d) e k = absurd cc

no-wait : (o : Option Wait) → waiting_answer o ≡ [] → o ≡ None
no-wait None e = refl
no-wait (Some x) e = absurd cc

-- Quiet.

pub settled-quiet : (w : World) → IsSettled w → IsQuiet w
settled-quiet w is =
    let rest = settled-rest w is in
    let first = append_empty (waiting_answer (first_wait w) ++ flat_map (held_by w.tables) w.tables.services) _
    rest.1 in
    let waiting = append_empty (waiting_answer (first_wait w)) _ first.0 in
    (rest.0, least-none wait_cmp (waits w) (no-wait (first_wait w) waiting.0))

pub none-held : (w : World) (s : Service) → IsSettled w → Has w.tables.services s → held_by w.tables s ≡ []
none-held w s is h =
    let rest = settled-rest w is in
    let first = append_empty (waiting_answer (first_wait w) ++ flat_map (held_by w.tables) w.tables.services) _
    rest.1 in
    let waiting = append_empty (waiting_answer (first_wait w)) _ first.0 in
    flat_map_empty (held_by w.tables) w.tables.services s waiting.1 h

pub none-paused : (w : World) (s : Service) → IsSettled w → Has w.tables.services s → is_paused s ≡ false
none-paused w s is h =
    let rest = settled-rest w is in
    let first = append_empty (waiting_answer (first_wait w) ++ flat_map (held_by w.tables) w.tables.services) _
    rest.1 in
    go (is_paused s) (flat_map_empty paused_by w.tables.services s first.1 h)
  where
    go : (b : Bool) → cond b (settle.Paused s.id ∷ []) [] ≡ [] → b ≡ false
    go true e = absurd cc
    go false e = refl

-- each kind of wait, row by row
pub record NoWaits (w : World) : Type 0 where
  pub start : (x : Task) → Has w.tables.tasks x → start_wait w.tables x ≡ []
  pub update : (s : Service) → Has w.tables.services s → update_wait w.tables s ≡ []
  pub executor : (a : NodeAgent) → Has w.agents a → executor_wait a ≡ []
  pub session : (n : Node) → Has w.tables.nodes n → session_wait w n ≡ []
  pub remote : (x : Task) → Has w.tables.tasks x → remote_wait w.tables x ≡ []

pub no-waits : (w : World) → waits w ≡ [] → NoWaits w
no-waits w e =
    let a = flat_map (start_wait w.tables) w.tables.tasks in
    let b = flat_map (update_wait w.tables) w.tables.services in
    let c = flat_map executor_wait w.agents in
    let d = flat_map (session_wait w) w.tables.nodes in
    let four = append_empty (a ++ b ++ c ++ d) _ e in
    let three = append_empty (a ++ b ++ c) _ four.0 in
    let two = append_empty (a ++ b) _ three.0 in
    let one = append_empty a _ two.0 in
    record {
      start = λ x h. flat_map_empty (start_wait w.tables) w.tables.tasks x one.0 h;
      update = λ s h. flat_map_empty (update_wait w.tables) w.tables.services s one.1 h;
      executor = λ x h. flat_map_empty executor_wait w.agents x two.1 h;
      session = λ n h. flat_map_empty (session_wait w) w.tables.nodes n three.1 h;
      remote = λ x h. flat_map_empty (remote_wait w.tables) w.tables.tasks x four.1 h;
    }
