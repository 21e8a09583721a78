-- Histories that aren't legal: two entries exchanged, or one left out.
use Rattle.std.specs.Prelude.{List, [], drop, false, refl, take, true, ℕ, ◌++◌, ◌+◌, ◌∷◌, ◌≡◌}
use Rattle.swarm_model.proofs.Examples.Journals.ClosedPlace as closed_place
use Rattle.swarm_model.proofs.Examples.Journals.DoneJob as done_job
use Rattle.swarm_model.proofs.Examples.Journals.EveryNode as every_node
use Rattle.swarm_model.proofs.Examples.Journals.FullNetwork as full_network
use Rattle.swarm_model.proofs.Examples.Journals.LostLabel as lost_label
use Rattle.swarm_model.proofs.Examples.Journals.RolledBack as rolled_back
use Rattle.swarm_model.proofs.Examples.Journals.TwoReplicas as two_replicas
use Rattle.swarm_model.proofs.Examples.OutOfOrder.FailAndDown as fail_and_down
use Rattle.swarm_model.proofs.Examples.OutOfOrder.FinishAndTrim as finish_and_trim
use Rattle.swarm_model.proofs.Examples.OutOfOrder.GoneAndReject as gone_and_reject
use Rattle.swarm_model.proofs.Examples.OutOfOrder.NoteAndDown as note_and_down
use Rattle.swarm_model.proofs.Examples.OutOfOrder.OrphanAndNote as orphan_and_note
use Rattle.swarm_model.proofs.Examples.OutOfOrder.RejectAndForget as reject_and_forget
use Rattle.swarm_model.proofs.Examples.OutOfOrder.SwapAndDown as swap_and_down
use Rattle.swarm_model.specs.History.{is_legal}
use Rattle.swarm_objects.specs.declared.calls.Entry.{Entry}

-- without the entry that has so many before it
abbrev without : ℕ → List Entry → List Entry
without n h = take n h ++ drop (n + 1) h

abbrev swapped : List Entry → List Entry
swapped [] = []
swapped (x ∷ []) = x ∷ []
swapped (x ∷ y ∷ rest) = y ∷ x ∷ rest

-- with the two entries exchanged that have so many before them
abbrev exchanged : ℕ → List Entry → List Entry
exchanged n h = take n h ++ swapped (drop n h)

-- Journals.

-- Two replicas.

two_replicas_exchanged_12 : is_legal (exchanged 12 two_replicas.history) ≡ false
two_replicas_exchanged_12 = refl

two_replicas_exchanged_12_before : is_legal (take 12 (exchanged 12 two_replicas.history)) ≡ true
two_replicas_exchanged_12_before = refl

two_replicas_exchanged_31 : is_legal (exchanged 31 two_replicas.history) ≡ false
two_replicas_exchanged_31 = refl

two_replicas_exchanged_31_before : is_legal (take 32 (exchanged 31 two_replicas.history)) ≡ true
two_replicas_exchanged_31_before = refl

two_replicas_without_8 : is_legal (without 8 two_replicas.history) ≡ false
two_replicas_without_8 = refl

two_replicas_without_8_before : is_legal (take 8 (without 8 two_replicas.history)) ≡ true
two_replicas_without_8_before = refl

two_replicas_without_14 : is_legal (without 14 two_replicas.history) ≡ false
two_replicas_without_14 = refl

two_replicas_without_14_before : is_legal (take 20 (without 14 two_replicas.history)) ≡ true
two_replicas_without_14_before = refl

-- Closed place.

closed_place_exchanged_1 : is_legal (exchanged 1 closed_place.history) ≡ false
closed_place_exchanged_1 = refl

closed_place_exchanged_1_before : is_legal (take 1 (exchanged 1 closed_place.history)) ≡ true
closed_place_exchanged_1_before = refl

closed_place_exchanged_3 : is_legal (exchanged 3 closed_place.history) ≡ false
closed_place_exchanged_3 = refl

closed_place_exchanged_3_before : is_legal (take 3 (exchanged 3 closed_place.history)) ≡ true
closed_place_exchanged_3_before = refl

closed_place_without_18 : is_legal (without 18 closed_place.history) ≡ false
closed_place_without_18 = refl

closed_place_without_18_before : is_legal (take 18 (without 18 closed_place.history)) ≡ true
closed_place_without_18_before = refl

closed_place_without_79 : is_legal (without 79 closed_place.history) ≡ false
closed_place_without_79 = refl

closed_place_without_79_before : is_legal (take 82 (without 79 closed_place.history)) ≡ true
closed_place_without_79_before = refl

-- Rolled back.

rolled_back_exchanged_14 : is_legal (exchanged 14 rolled_back.history) ≡ false
rolled_back_exchanged_14 = refl

rolled_back_exchanged_14_before : is_legal (take 14 (exchanged 14 rolled_back.history)) ≡ true
rolled_back_exchanged_14_before = refl

rolled_back_exchanged_108 : is_legal (exchanged 108 rolled_back.history) ≡ false
rolled_back_exchanged_108 = refl

rolled_back_exchanged_108_before : is_legal (take 108 (exchanged 108 rolled_back.history)) ≡ true
rolled_back_exchanged_108_before = refl

rolled_back_without_8 : is_legal (without 8 rolled_back.history) ≡ false
rolled_back_without_8 = refl

rolled_back_without_8_before : is_legal (take 11 (without 8 rolled_back.history)) ≡ true
rolled_back_without_8_before = refl

rolled_back_without_116 : is_legal (without 116 rolled_back.history) ≡ false
rolled_back_without_116 = refl

rolled_back_without_116_before : is_legal (take 117 (without 116 rolled_back.history)) ≡ true
rolled_back_without_116_before = refl

-- Lost label.

lost_label_exchanged_28 : is_legal (exchanged 28 lost_label.history) ≡ false
lost_label_exchanged_28 = refl

lost_label_exchanged_28_before : is_legal (take 28 (exchanged 28 lost_label.history)) ≡ true
lost_label_exchanged_28_before = refl

lost_label_exchanged_34 : is_legal (exchanged 34 lost_label.history) ≡ false
lost_label_exchanged_34 = refl

lost_label_exchanged_34_before : is_legal (take 34 (exchanged 34 lost_label.history)) ≡ true
lost_label_exchanged_34_before = refl

lost_label_without_24 : is_legal (without 24 lost_label.history) ≡ false
lost_label_without_24 = refl

lost_label_without_24_before : is_legal (take 24 (without 24 lost_label.history)) ≡ true
lost_label_without_24_before = refl

lost_label_without_32 : is_legal (without 32 lost_label.history) ≡ false
lost_label_without_32 = refl

lost_label_without_32_before : is_legal (take 34 (without 32 lost_label.history)) ≡ true
lost_label_without_32_before = refl

-- Full network.

full_network_exchanged_6 : is_legal (exchanged 6 full_network.history) ≡ false
full_network_exchanged_6 = refl

full_network_exchanged_6_before : is_legal (take 6 (exchanged 6 full_network.history)) ≡ true
full_network_exchanged_6_before = refl

full_network_exchanged_26 : is_legal (exchanged 26 full_network.history) ≡ false
full_network_exchanged_26 = refl

full_network_exchanged_26_before : is_legal (take 26 (exchanged 26 full_network.history)) ≡ true
full_network_exchanged_26_before = refl

full_network_without_0 : is_legal (without 0 full_network.history) ≡ false
full_network_without_0 = refl

full_network_without_0_before : is_legal (take 2 (without 0 full_network.history)) ≡ true
full_network_without_0_before = refl

full_network_without_12 : is_legal (without 12 full_network.history) ≡ false
full_network_without_12 = refl

full_network_without_12_before : is_legal (take 13 (without 12 full_network.history)) ≡ true
full_network_without_12_before = refl

-- Done job.

done_job_exchanged_35 : is_legal (exchanged 35 done_job.history) ≡ false
done_job_exchanged_35 = refl

done_job_exchanged_35_before : is_legal (take 35 (exchanged 35 done_job.history)) ≡ true
done_job_exchanged_35_before = refl

done_job_exchanged_38 : is_legal (exchanged 38 done_job.history) ≡ false
done_job_exchanged_38 = refl

done_job_exchanged_38_before : is_legal (take 38 (exchanged 38 done_job.history)) ≡ true
done_job_exchanged_38_before = refl

done_job_without_25 : is_legal (without 25 done_job.history) ≡ false
done_job_without_25 = refl

done_job_without_25_before : is_legal (take 26 (without 25 done_job.history)) ≡ true
done_job_without_25_before = refl

done_job_without_36 : is_legal (without 36 done_job.history) ≡ false
done_job_without_36 = refl

done_job_without_36_before : is_legal (take 38 (without 36 done_job.history)) ≡ true
done_job_without_36_before = refl

-- Every node.

every_node_exchanged_22 : is_legal (exchanged 22 every_node.history) ≡ false
every_node_exchanged_22 = refl

every_node_exchanged_22_before : is_legal (take 22 (exchanged 22 every_node.history)) ≡ true
every_node_exchanged_22_before = refl

every_node_exchanged_34 : is_legal (exchanged 34 every_node.history) ≡ false
every_node_exchanged_34 = refl

every_node_exchanged_34_before : is_legal (take 34 (exchanged 34 every_node.history)) ≡ true
every_node_exchanged_34_before = refl

every_node_without_29 : is_legal (without 29 every_node.history) ≡ false
every_node_without_29 = refl

every_node_without_29_before : is_legal (take 29 (without 29 every_node.history)) ≡ true
every_node_without_29_before = refl

every_node_without_31 : is_legal (without 31 every_node.history) ≡ false
every_node_without_31 = refl

every_node_without_31_before : is_legal (take 31 (without 31 every_node.history)) ≡ true
every_node_without_31_before = refl

-- Reject and forget.

reject_and_forget_exchanged_8 : is_legal (exchanged 8 reject_and_forget.history) ≡ false
reject_and_forget_exchanged_8 = refl

reject_and_forget_exchanged_8_before : is_legal (take 8 (exchanged 8 reject_and_forget.history)) ≡ true
reject_and_forget_exchanged_8_before = refl

reject_and_forget_exchanged_28 : is_legal (exchanged 28 reject_and_forget.history) ≡ false
reject_and_forget_exchanged_28 = refl

reject_and_forget_exchanged_28_before : is_legal (take 28 (exchanged 28 reject_and_forget.history)) ≡ true
reject_and_forget_exchanged_28_before = refl

reject_and_forget_without_0 : is_legal (without 0 reject_and_forget.history) ≡ false
reject_and_forget_without_0 = refl

reject_and_forget_without_0_before : is_legal (take 4 (without 0 reject_and_forget.history)) ≡ true
reject_and_forget_without_0_before = refl

reject_and_forget_without_41 : is_legal (without 41 reject_and_forget.history) ≡ false
reject_and_forget_without_41 = refl

reject_and_forget_without_41_before : is_legal (take 53 (without 41 reject_and_forget.history)) ≡ true
reject_and_forget_without_41_before = refl

-- Note and down.

note_and_down_exchanged_25 : is_legal (exchanged 25 note_and_down.history) ≡ false
note_and_down_exchanged_25 = refl

note_and_down_exchanged_25_before : is_legal (take 25 (exchanged 25 note_and_down.history)) ≡ true
note_and_down_exchanged_25_before = refl

note_and_down_exchanged_47 : is_legal (exchanged 47 note_and_down.history) ≡ false
note_and_down_exchanged_47 = refl

note_and_down_exchanged_47_before : is_legal (take 47 (exchanged 47 note_and_down.history)) ≡ true
note_and_down_exchanged_47_before = refl

note_and_down_without_4 : is_legal (without 4 note_and_down.history) ≡ false
note_and_down_without_4 = refl

note_and_down_without_4_before : is_legal (take 7 (without 4 note_and_down.history)) ≡ true
note_and_down_without_4_before = refl

note_and_down_without_27 : is_legal (without 27 note_and_down.history) ≡ false
note_and_down_without_27 = refl

note_and_down_without_27_before : is_legal (take 40 (without 27 note_and_down.history)) ≡ true
note_and_down_without_27_before = refl

-- Finish and trim.

finish_and_trim_exchanged_15 : is_legal (exchanged 15 finish_and_trim.history) ≡ false
finish_and_trim_exchanged_15 = refl

finish_and_trim_exchanged_15_before : is_legal (take 15 (exchanged 15 finish_and_trim.history)) ≡ true
finish_and_trim_exchanged_15_before = refl

finish_and_trim_exchanged_19 : is_legal (exchanged 19 finish_and_trim.history) ≡ false
finish_and_trim_exchanged_19 = refl

finish_and_trim_exchanged_19_before : is_legal (take 19 (exchanged 19 finish_and_trim.history)) ≡ true
finish_and_trim_exchanged_19_before = refl

finish_and_trim_without_47 : is_legal (without 47 finish_and_trim.history) ≡ false
finish_and_trim_without_47 = refl

finish_and_trim_without_47_before : is_legal (take 47 (without 47 finish_and_trim.history)) ≡ true
finish_and_trim_without_47_before = refl

finish_and_trim_without_56 : is_legal (without 56 finish_and_trim.history) ≡ false
finish_and_trim_without_56 = refl

finish_and_trim_without_56_before : is_legal (take 56 (without 56 finish_and_trim.history)) ≡ true
finish_and_trim_without_56_before = refl

-- Orphan and note.

orphan_and_note_exchanged_4 : is_legal (exchanged 4 orphan_and_note.history) ≡ false
orphan_and_note_exchanged_4 = refl

orphan_and_note_exchanged_4_before : is_legal (take 6 (exchanged 4 orphan_and_note.history)) ≡ true
orphan_and_note_exchanged_4_before = refl

orphan_and_note_exchanged_29 : is_legal (exchanged 29 orphan_and_note.history) ≡ false
orphan_and_note_exchanged_29 = refl

orphan_and_note_exchanged_29_before : is_legal (take 29 (exchanged 29 orphan_and_note.history)) ≡ true
orphan_and_note_exchanged_29_before = refl

orphan_and_note_without_1 : is_legal (without 1 orphan_and_note.history) ≡ false
orphan_and_note_without_1 = refl

orphan_and_note_without_1_before : is_legal (take 5 (without 1 orphan_and_note.history)) ≡ true
orphan_and_note_without_1_before = refl

orphan_and_note_without_5 : is_legal (without 5 orphan_and_note.history) ≡ false
orphan_and_note_without_5 = refl

orphan_and_note_without_5_before : is_legal (take 7 (without 5 orphan_and_note.history)) ≡ true
orphan_and_note_without_5_before = refl

-- Fail and down.

fail_and_down_exchanged_42 : is_legal (exchanged 42 fail_and_down.history) ≡ false
fail_and_down_exchanged_42 = refl

fail_and_down_exchanged_42_before : is_legal (take 42 (exchanged 42 fail_and_down.history)) ≡ true
fail_and_down_exchanged_42_before = refl

fail_and_down_exchanged_48 : is_legal (exchanged 48 fail_and_down.history) ≡ false
fail_and_down_exchanged_48 = refl

fail_and_down_exchanged_48_before : is_legal (take 48 (exchanged 48 fail_and_down.history)) ≡ true
fail_and_down_exchanged_48_before = refl

fail_and_down_without_10 : is_legal (without 10 fail_and_down.history) ≡ false
fail_and_down_without_10 = refl

fail_and_down_without_10_before : is_legal (take 13 (without 10 fail_and_down.history)) ≡ true
fail_and_down_without_10_before = refl

fail_and_down_without_36 : is_legal (without 36 fail_and_down.history) ≡ false
fail_and_down_without_36 = refl

fail_and_down_without_36_before : is_legal (take 37 (without 36 fail_and_down.history)) ≡ true
fail_and_down_without_36_before = refl

-- Gone and reject.

gone_and_reject_exchanged_0 : is_legal (exchanged 0 gone_and_reject.history) ≡ false
gone_and_reject_exchanged_0 = refl

gone_and_reject_exchanged_0_before : is_legal (take 12 (exchanged 0 gone_and_reject.history)) ≡ true
gone_and_reject_exchanged_0_before = refl

gone_and_reject_exchanged_19 : is_legal (exchanged 19 gone_and_reject.history) ≡ false
gone_and_reject_exchanged_19 = refl

gone_and_reject_exchanged_19_before : is_legal (take 19 (exchanged 19 gone_and_reject.history)) ≡ true
gone_and_reject_exchanged_19_before = refl

gone_and_reject_without_38 : is_legal (without 38 gone_and_reject.history) ≡ false
gone_and_reject_without_38 = refl

gone_and_reject_without_38_before : is_legal (take 38 (without 38 gone_and_reject.history)) ≡ true
gone_and_reject_without_38_before = refl

gone_and_reject_without_51 : is_legal (without 51 gone_and_reject.history) ≡ false
gone_and_reject_without_51 = refl

gone_and_reject_without_51_before : is_legal (take 51 (without 51 gone_and_reject.history)) ≡ true
gone_and_reject_without_51_before = refl

-- Swap and down.

swap_and_down_exchanged_9 : is_legal (exchanged 9 swap_and_down.history) ≡ false
swap_and_down_exchanged_9 = refl

swap_and_down_exchanged_9_before : is_legal (take 9 (exchanged 9 swap_and_down.history)) ≡ true
swap_and_down_exchanged_9_before = refl

swap_and_down_exchanged_28 : is_legal (exchanged 28 swap_and_down.history) ≡ false
swap_and_down_exchanged_28 = refl

swap_and_down_exchanged_28_before : is_legal (take 28 (exchanged 28 swap_and_down.history)) ≡ true
swap_and_down_exchanged_28_before = refl

swap_and_down_without_32 : is_legal (without 32 swap_and_down.history) ≡ false
swap_and_down_without_32 = refl

swap_and_down_without_32_before : is_legal (take 32 (without 32 swap_and_down.history)) ≡ true
swap_and_down_without_32_before = refl

swap_and_down_without_43 : is_legal (without 43 swap_and_down.history) ≡ false
swap_and_down_without_43 = refl

swap_and_down_without_43_before : is_legal (take 55 (without 43 swap_and_down.history)) ≡ true
swap_and_down_without_43_before = refl
