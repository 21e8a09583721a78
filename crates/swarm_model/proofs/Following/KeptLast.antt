-- What was kept of lines, and of one line more that is the last: the history is cut where the steps are.
use Rattle.std.proofs.Common.{◌≡◌, ℕ, List, [], ◌∷◌, ◌++◌, refl, Option, None, sym, ◌∙◌, ap, subst, append_assoc, append-nil}
use Rattle.std.proofs.lemmas.List.{append_cancel_right}
use Rattle.swarm_model.proofs.Following.Alone.{AreOwn}
use Rattle.swarm_model.specs.OneCaller.{AreLinesAlone}
use Rattle.swarm_model.proofs.Base.Histories.{replay-append}
use Rattle.swarm_model.proofs.Following.Kept.{Made, halt, made, part_none, part_undone, whole_on}
use Rattle.swarm_model.proofs.Following.Own.{own-append}
use Rattle.swarm_model.proofs.Following.Turns.{IsWhole, whole_first}
use Rattle.swarm_model.specs.Follows.{AreOfLines, FollowsFrom, IsEnd, IsLine}
use Rattle.swarm_model.specs.History.{replay, replay_from}
use Rattle.swarm_model.specs.Kept.{KeepsLine, KeepsLines, KeepsUndone, KeptLastLaw, KeptUndoneLaw, before_next}
use Rattle.swarm_model.specs.Own.{Step, own, own_from}
use Rattle.swarm_model.specs.Script.{Asked}
use Rattle.swarm_model.specs.Undone.{IsUndoneFrom}
use Rattle.swarm_objects.specs.World.{World, empty_world}
use Rattle.swarm_objects.specs.declared.calls.Entry.{Entry}

before_both : (rest later : List Step) (now : List Entry) →
    before_next rest (before_next later now) ≡ before_next (rest ++ later) now
before_both [] later now = refl
before_both (s ∷ rest) later now = refl

-- the steps of a part are those that came before the rest of them
steps_of : (before es part more : List Entry) (first rest : List Step) → es ≡ part ++ more →
    own_from 0 before es ≡ first ++ rest → own_from 0 (before ++ part) more ≡ rest → own_from 0 before part ≡ first
steps_of before es part more first rest is all later =
    append_cancel_right (own_from 0 before part) first rest
    (ap (λ (l : List Step). own_from 0 before part ++ l) (sym later)
    ∙ sym (own-append 0 before part more)
    ∙ ap (own_from 0 before) (sym is)
    ∙ all)

now_on : (before es part more : List Entry) → es ≡ part ++ more → before ++ es ≡ (before ++ part) ++ more
now_on before es part more is =
    ap (λ (l : List Entry). before ++ l) is ∙ sym (append_assoc before part more)

-- a line before others
record First (workers : ℕ) (line : Asked) (lines : List Asked) (before es : List Entry) (first rest later : List Step) :
    Type 0 where
  pub m : Made line before es (rest ++ later)
  pub whole : IsWhole workers ((before ++ m.part) ++ m.more)
  pub now : before ++ es ≡ (before ++ m.part) ++ m.more
  pub steps : own_from 0 before m.part ≡ first
  pub keeps : KeepsLines lines None rest (before_next later ((before ++ m.part) ++ m.more))

first_made : (workers : ℕ) (line : Asked) (lines : List Asked) (before es : List Entry) (all first rest later : List Step) →
    IsWhole workers (before ++ es) → own_from 0 before es ≡ all ++ later → all ≡ first ++ rest →
    KeepsLine line first (before_next rest (before_next later (before ++ es))) →
    KeepsLines lines None rest (before_next later (before ++ es)) → First workers line lines before es first rest later
first_made workers line lines before es all first rest later whole e is keeps others =
    let steps : own_from 0 before es ≡ first ++ (rest ++ later) =
    e ∙ ap (λ (l : List Step). l ++ later) is ∙ append_assoc first rest later in
    let m = made workers line before es first (rest ++ later) whole
    (subst (KeepsLine line first) (before_both rest later (before ++ es)) keeps) steps in
    let now = now_on before es m.part m.more m.es_is in
    record {
      m = m;
      whole = whole_on workers before es m.part m.more m.es_is whole;
      now = now;
      steps = steps_of before es m.part m.more first (rest ++ later) m.es_is steps m.rest_is;
      keeps = subst (λ (l : List Entry). KeepsLines lines None rest (before_next later l)) now others;
    }

-- Cut before the last line.

record CutFrom (lines : List Asked) (last : Asked) (before es : List Entry) (earlier later : List Step) : Type 0 where
  pub first : List Entry
  pub part : List Entry
  pub more : List Entry
  pub entries : es ≡ first ++ (part ++ more)
  pub lines_are : AreOfLines (replay before) lines first (part ++ (more ++ halt))
  pub last_is : IsLine (replay (before ++ first)) last part (more ++ halt)
  pub end_is : IsEnd (replay ((before ++ first) ++ part)) None (more ++ halt)
  pub earlier_are : own_from 0 before first ≡ earlier
  pub later_are : own_from 0 (before ++ first) part ≡ later

cut_here : (workers : ℕ) (last : Asked) (before es : List Entry) (later : List Step) → IsWhole workers (before ++ es) →
    own_from 0 before es ≡ later → KeepsLine last later (before ++ es) → CutFrom [] last before es [] later
cut_here workers last before es later whole e keeps =
    let steps : own_from 0 before es ≡ later ++ [] = e ∙ sym (append-nil later) in
    let m = made workers last before es later [] whole keeps steps in
    let same = append-nil before in
    record {
      first = [];
      part = m.part;
      more = m.more;
      entries = m.es_is;
      lines_are = refl;
      last_is = subst (λ (l : List Entry). IsLine (replay l) last m.part (m.more ++ halt)) (sym same) m.is;
      end_is = record {
        part = m.more;
        entries = refl;
        part_is = part_none workers ((before ++ []) ++ m.part) m.more
            (subst (λ (l : List Entry). IsWhole workers ((l ++ m.part) ++ m.more)) (sym same)
            (whole_on workers before es m.part m.more m.es_is whole))
            (ap (λ (l : List Entry). own_from 0 (l ++ m.part) m.more) same ∙ m.rest_is);
      };
      earlier_are = refl;
      later_are =
          ap (λ (l : List Entry). own_from 0 l m.part) same
          ∙ steps_of before es m.part m.more later [] m.es_is steps m.rest_is;
    }

cut_more : (workers : ℕ) (line : Asked) (lines : List Asked) (last : Asked) (before es : List Entry)
    (all first rest later : List Step) → all ≡ first ++ rest → (f : First workers line lines before es first rest later) →
    CutFrom lines last (before ++ f.m.part) f.m.more rest later → CutFrom (line ∷ lines) last before es all later
cut_more workers line lines last before es all first rest later is f c =
    let assoc = append_assoc before f.m.part c.first in
    record {
      first = f.m.part ++ c.first;
      part = c.part;
      more = c.more;
      entries =
          f.m.es_is ∙ ap (λ (l : List Entry). f.m.part ++ l) c.entries
          ∙ sym (append_assoc f.m.part c.first (c.part ++ c.more));
      lines_are = (
        f.m.part,
        c.first,
        refl,
        subst (IsLine (replay before) line f.m.part)
            (ap (λ (l : List Entry). l ++ halt) c.entries
            ∙ append_assoc c.first (c.part ++ c.more) halt
            ∙ ap (λ (l : List Entry). c.first ++ l) (append_assoc c.part c.more halt)) f.m.is,
        subst (λ (w : World). AreOfLines w lines c.first (c.part ++ (c.more ++ halt)))
            (replay-append empty_world before f.m.part) c.lines_are,
      );
      last_is = subst (λ (l : List Entry). IsLine (replay l) last c.part (c.more ++ halt)) assoc c.last_is;
      end_is = subst (λ (l : List Entry). IsEnd (replay (l ++ c.part)) None (c.more ++ halt)) assoc c.end_is;
      earlier_are =
          own-append 0 before f.m.part c.first
          ∙ ap (λ (l : List Step). l ++ own_from 0 (before ++ f.m.part) c.first) f.steps
          ∙ ap (λ (l : List Step). first ++ l) c.earlier_are
          ∙ sym is;
      later_are = ap (λ (l : List Entry). own_from 0 l c.part) (sym assoc) ∙ c.later_are;
    }

cut_from : (workers : ℕ) (lines : List Asked) (last : Asked) (before es : List Entry) (earlier later : List Step) →
    IsWhole workers (before ++ es) → own_from 0 before es ≡ earlier ++ later →
    KeepsLines lines None earlier (before_next later (before ++ es)) → KeepsLine last later (before ++ es) →
    CutFrom lines last before es earlier later
cut_from workers [] last before es earlier later whole e keeps made =
    subst (λ (l : List Step). CutFrom [] last before es l later) (sym keeps)
    (cut_here workers last before es later whole (e ∙ ap (λ (l : List Step). l ++ later) keeps) made)
cut_from workers (line ∷ lines) last before es earlier later whole e keeps made =
    let f = first_made workers line lines before es earlier keeps.0 keeps.1 later whole e keeps.2 keeps.3 keeps.4 in
    cut_more workers line lines last before es earlier keeps.0 keeps.1 later keeps.2 f
    (cut_from workers lines last (before ++ f.m.part) f.m.more keeps.1 later f.whole f.m.rest_is f.keeps
    (subst (KeepsLine last later) f.now made))

pub kept-last-law : KeptLastLaw
kept-last-law workers lines last earlier later start legal callers e keeps made =
    let whole = whole_first workers (start ++ halt) start halt refl (record { legal = legal; callers = callers }) in
    let c = cut_from workers lines last [] start earlier later whole e keeps made in
    record {
      cut = record {
        before = c.first;
        part = c.part;
        rest = c.more ++ halt;
        entries =
            ap (λ (l : List Entry). l ++ halt) c.entries
            ∙ append_assoc c.first (c.part ++ c.more) halt
            ∙ ap (λ (l : List Entry). c.first ++ l) (append_assoc c.part c.more halt);
        lines_are = c.lines_are;
        last_is = c.last_is;
        end_is = c.end_is;
      };
      earlier_are = c.earlier_are;
      later_are = c.later_are;
    }

-- A next line that isn't done.

pub record UndoneFrom (start : List Entry) (w : World) (lines : List Asked) (next : Option Asked) (es : List Entry) :
    Type 0 where
  pub are : FollowsFrom w lines next (es ++ halt)
  pub undone : IsUndoneFrom start w lines next (es ++ halt) are
  pub alone : AreOwn start → AreLinesAlone w lines next (es ++ halt) are

undone_here : (workers : ℕ) (next : Option Asked) (before es : List Entry) (later : List Step) →
    IsWhole workers (before ++ es) → own_from 0 before es ≡ later → KeepsUndone (before ++ es) next later →
    UndoneFrom (before ++ es) (replay before) [] next es
undone_here workers next before es later whole e keeps =
    let made = part_undone workers next before es whole (subst (KeepsUndone (before ++ es) next) (sym e) keeps) in
    record { are = record { part = es; entries = refl; part_is = made.is }; undone = made.undone; alone = made.alone }

undone_more : (workers : ℕ) (line : Asked) (lines : List Asked) (next : Option Asked) (before es : List Entry)
    (first rest later : List Step) (f : First workers line lines before es first rest later) →
    UndoneFrom (before ++ es) (replay_from (replay before) f.m.part) lines next f.m.more →
    UndoneFrom (before ++ es) (replay before) (line ∷ lines) next es
undone_more workers line lines next before es first rest later f others = record {
  are = (
    f.m.part,
    f.m.more ++ halt,
    ap (λ (l : List Entry). l ++ halt) f.m.es_is ∙ append_assoc f.m.part f.m.more halt,
    f.m.is,
    others.are,
  );
  undone = others.undone;
  alone = λ own. (f.m.alone own, others.alone own);
}

undone_from : (workers : ℕ) (lines : List Asked) (next : Option Asked) (before es : List Entry)
    (earlier later : List Step) → IsWhole workers (before ++ es) → own_from 0 before es ≡ earlier ++ later →
    KeepsLines lines None earlier (before_next later (before ++ es)) → KeepsUndone (before ++ es) next later →
    UndoneFrom (before ++ es) (replay before) lines next es
undone_from workers [] next before es earlier later whole e keeps undone =
    undone_here workers next before es later whole (e ∙ ap (λ (l : List Step). l ++ later) keeps) undone
undone_from workers (line ∷ lines) next before es earlier later whole e keeps undone =
    let f = first_made workers line lines before es earlier keeps.0 keeps.1 later whole e keeps.2 keeps.3 keeps.4 in
    let others = undone_from workers lines next (before ++ f.m.part) f.m.more keeps.1 later f.whole f.m.rest_is f.keeps
    (subst (λ (l : List Entry). KeepsUndone l next later) f.now undone) in
    undone_more workers line lines next before es keeps.0 keeps.1 later f
    (subst (λ (w : World). UndoneFrom (before ++ es) w lines next f.m.more) (replay-append empty_world before f.m.part)
    (subst (λ (l : List Entry). UndoneFrom l (replay (before ++ f.m.part)) lines next f.m.more) (sym f.now) others))

pub undone_lines : (workers : ℕ) (lines : List Asked) (next : Option Asked) (earlier later : List Step)
    (start : List Entry) → IsWhole workers (start ++ halt) → own 0 start ≡ earlier ++ later →
    KeepsLines lines None earlier (before_next later start) → KeepsUndone start next later →
    UndoneFrom start empty_world lines next start
undone_lines workers lines next earlier later start whole e keeps undone =
    undone_from workers lines next [] start earlier later (whole_first workers (start ++ halt) start halt refl whole) e
    keeps undone

pub kept-undone-law : KeptUndoneLaw
kept-undone-law workers lines next earlier later start legal callers e keeps undone =
    let u = undone_lines workers lines next earlier later start (record { legal = legal; callers = callers }) e keeps
    undone in
    record {
      follows = record { callers = callers; lines_are = u.are };
      start = start;
      ends = refl;
      undone = u.undone;
    }
