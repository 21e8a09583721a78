-- Fields that say nothing give what is usual, and what is usual has no fields.
use Rattle.std.proofs.Common.{◌≡◌, [], refl}
use Rattle.swarm_objects.specs.Defaults.{usual_draft, usual_node, usual_settings}
use Rattle.script_grammar.specs.Drafts.{draft_of, node_draft_of, settings_of}
use Rattle.script_grammar.specs.Pieces.{joined, node_pieces, service_pieces, settings_pieces}

unsaid_service : draft_of [] ≡ usual_draft
unsaid_service = refl

unsaid_node : node_draft_of [] ≡ usual_node
unsaid_node = refl

unsaid_settings : settings_of [] ≡ usual_settings
unsaid_settings = refl

unwritten_service : joined (service_pieces usual_draft) ≡ []
unwritten_service = refl

unwritten_node : joined (node_pieces usual_node) ≡ []
unwritten_node = refl

unwritten_settings : joined (settings_pieces usual_settings) ≡ []
unwritten_settings = refl
