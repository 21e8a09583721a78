-- What is put of the replies to caller 0.
use Rattle.std.specs.Prelude.{ℕ, List, Bool, flat_map, map}
use Rattle.std.specs.List.{list_any}
use Rattle.swarm_lines.specs.Serial.{is_refused}
use Rattle.swarm_model.specs.Own.{Step, reply_to}
use Rattle.swarm_objects.specs.declared.replies.Reply.{Reply}
use Rattle.swarm_print.specs.Texts.{reply_text}

-- the texts of the replies, in order
abbrev pub texts_of : List Reply → List ℕ
texts_of replies = flat_map reply_text replies

-- of the replies to these steps
abbrev pub part_out : List Step → List ℕ
part_out part = texts_of (map reply_to part)

abbrev pub part_refused : List Step → Bool
part_refused part = list_any is_refused (map reply_to part)
