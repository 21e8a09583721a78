-- What caller 0 keeps as it reads on: a look stays one while others append, and a further line joins the earlier ones.
use Rattle.std.proofs.Common.{◌≡◌, List, [], ◌∷◌, ◌++◌, Option, None, refl, sym, ◌∙◌, ap, subst, append_assoc, append-nil}
use Rattle.swarm_model.proofs.Following.Own.{own-append}
use Rattle.swarm_model.specs.Kept.{KeepsLine, KeepsLines, SeesIdle, before_next}
use Rattle.swarm_model.specs.Undone.{Sees}
use Rattle.swarm_model.specs.History.{replay}
use Rattle.swarm_model.specs.Own.{Step, own_from}
use Rattle.swarm_model.specs.Script.{Asked, Asks, Nothing, Settles, Waits}
use Rattle.swarm_objects.specs.World.{World}
use Rattle.swarm_objects.specs.declared.calls.Entry.{Entry}

none_joined : (xs ys : List Step) → xs ≡ [] → ys ≡ [] → xs ++ ys ≡ []
none_joined xs ys e f = ap (λ (l : List Step). l ++ ys) e ∙ f

-- a look at the world now
pub sees_now : (seen : List Entry) → Sees seen (replay seen)
sees_now seen = record { seen = seen; others = []; history = sym (append-nil seen); none = refl; world = refl }

-- it stays one while others append
pub sees_on : (before others : List Entry) (w : World) → own_from 0 before others ≡ [] → Sees before w →
    Sees (before ++ others) w
sees_on before others w none s = record {
  seen = s.seen;
  others = s.others ++ others;
  history = ap (λ (l : List Entry). l ++ others) s.history ∙ append_assoc s.seen s.others others;
  none =
      own-append 0 s.seen s.others others
      ∙ none_joined (own_from 0 s.seen s.others) (own_from 0 (s.seen ++ s.others) others) s.none
      (ap (λ (l : List Entry). own_from 0 l others) (sym s.history) ∙ none);
  world = s.world;
}

pub idle_on : (before others : List Entry) → own_from 0 before others ≡ [] → SeesIdle before → SeesIdle (before ++ others)
idle_on before others none s =
    record { world = s.world; sees = sees_on before others s.world none s.sees; idle = s.idle }

-- of a line only the end of a wait line speaks of the next entry
line_on : (line : Asked) (part : List Step) (next later : List Entry) → (SeesIdle next → SeesIdle later) →
    KeepsLine line part next → KeepsLine line part later
line_on Nothing part next later on keeps = keeps
line_on (Asks c) part next later on keeps = keeps
line_on (Settles budget) part next later on keeps = keeps
line_on (Waits ms) part next later on keeps =
    record { begun = keeps.begun; all = keeps.all; idle = λ less. on (keeps.idle less) }

before_on : (rest part : List Step) (now new : List Entry) → (SeesIdle now → SeesIdle (before_next part new)) →
    SeesIdle (before_next rest now) → SeesIdle (before_next (rest ++ part) new)
before_on [] part now new on s = on s
before_on (x ∷ rest) part now new on s = s

-- one line more, or a part of one
pub keeps_more : (lines : List Asked) (next : Option Asked) (more : List Asked) (parts part : List Step)
    (now new : List Entry) → (SeesIdle now → SeesIdle (before_next part new)) → KeepsLines lines None parts now →
    KeepsLines more next part new → KeepsLines (lines ++ more) next (parts ++ part) new
keeps_more [] next more parts part now new on keeps further =
    subst (λ (l : List Step). KeepsLines more next (l ++ part) new) (sym keeps) further
keeps_more (line ∷ lines) next more parts part now new on keeps further = (
  keeps.0,
  keeps.1 ++ part,
  ap (λ (l : List Step). l ++ part) keeps.2 ∙ append_assoc keeps.0 keeps.1 part,
  line_on line keeps.0 (before_next keeps.1 now) (before_next (keeps.1 ++ part) new)
      (before_on keeps.1 part now new on) keeps.3,
  keeps_more lines next more keeps.1 part now new on keeps.4 further,
)
