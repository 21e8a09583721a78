use Rattle.std.proofs.Common.{◌≡◌, ◌++◌, OnOk, string_bytes, subst, sym}
use Rattle.swarm_objects.specs.declared.replies.ViewReply.{ViewReply}
use Rattle.swarm_print.specs.Texts.{view_text}
use Rattle.swarm_print.proofs.replies.put_view.Goals as goal

pub returns-in-Service : goal.returns-in-Service
returns-in-Service c =
    subst (λ (view : ViewReply). OnOk c.put_service_detail.result (string_bytes c.put_service_detail.new.text ≡ string_bytes c.args.text.now ++ view_text view)) (sym c.in-Service.is) c.put_service_detail.ensures

pub returns-in-Task : goal.returns-in-Task
returns-in-Task c =
    subst (λ (view : ViewReply). OnOk c.put_task_detail.result (string_bytes c.put_task_detail.new.text ≡ string_bytes c.args.text.now ++ view_text view)) (sym c.in-Task.is) c.put_task_detail.ensures
