-- A run of the machine with every definition open. Made by tools/unfolding.py: not edited by hand.
use Rattle.std.specs.Prelude.{List}
use Rattle.hnsr_circuit.specs.World.{World, Outcome}
use Rattle.hnsr_circuit.specs.Call.{Start, Call}
use Rattle.hns_encoding.specs.Bytes.{le, le_bytes, be_from, be_bytes, all_zero, padded}
use Rattle.hns_encoding.specs.Words.{words_of, bytes_of}
use Rattle.hns_encoding.specs.Loops.{fold_from}
use Rattle.hnsr_body.specs.Utf8.{utf8_1, utf8_2, utf8_3, utf8_4, utf8}
use Rattle.hnsr_body.specs.Layout.{walked, laid_out}
use Rattle.hnsr_body.specs.Fields.{stepped, fetched, left}
use Rattle.hnsr_body.specs.Open.{open_fields, open_good, decode_open, open_bytes, encode_open}
use Rattle.hnsr_body.specs.Incoming.{incoming_fields, incoming_good, decode_incoming, incoming_bytes, encode_incoming}
use Rattle.hnsr_body.specs.Accept.{accept_fields, accept_good, decode_accept, accept_bytes, encode_accept, opened_fields, opened_good, decode_opened, opened_bytes, encode_opened}
use Rattle.hnsr_body.specs.Data.{data_checked, window_fields, decode_window, window_bytes, encode_window}
use Rattle.hnsr_body.specs.Detail.{reason_detail, decode_detail, detail_bytes, encode_detail}
use Rattle.hnsr_body.specs.Messages.{message_of, notice_body, notice_written}
use Rattle.hnsr_body.specs.Packet.{packet_checked}
use Rattle.hnsr_circuit.specs.Table.{next}
use Rattle.hnsr_circuit.specs.Config.{within_limits, config_good, validate_config}
use Rattle.hnsr_circuit.specs.Peer.{peer_of, peer_bytes, same_bytes, same_peer}
use Rattle.hnsr_circuit.specs.Pending.{is_pending, pending_at, pending_of, pending_under, requested_by, named_by, pending_over}
use Rattle.hnsr_circuit.specs.Circuits.{is_circuit, circuit_at, circuit_of, circuit_under, circuit_over, side_of, queued_in}
use Rattle.hnsr_circuit.specs.Ledger.{is_usage, usage_at, usage_over, lapsed, booked, ledger_answer, usage_answer}
use Rattle.hnsr_circuit.specs.Inflight.{kind_of, is_action, action_at, action_under, action_toward, dropped, tallied, capacity_left, capacity_answer}
use Rattle.hnsr_circuit.specs.Route.{peer_words, packet_words, route_words, out_words, output}
use Rattle.hnsr_circuit.specs.World.{proceed}
use Rattle.hnsr_circuit.specs.Counts.{pending_count, circuit_count, peer_work, reservation_work}
use Rattle.hnsr_circuit.specs.Queue.{queue_answer, can_queue, queued, send, when, tell_if, tell}
use Rattle.hnsr_circuit.specs.Entry.{too_few, tables_short, tables_answer, room_answer, peer_answer, packet_answer, clock_answer}
use Rattle.hnsr_circuit.specs.Packet.{sender, circuit_answer}
use Rattle.hnsr_circuit.specs.Draw.{draws_from, draws, draw_all, id_taken, drawn, draw_answer}
use Rattle.hnsr_circuit.specs.Open.{open_answer, admission_answer, endpoint_answer, deadline_answer, incoming_message, with_open, open_admitted, open_placed, open_booked, open_granted, open_lapsed, handle_open}
use Rattle.hnsr_circuit.specs.Accept.{request_answer, accept_answer, with_accept, opened_message, accept_taken, accept_with, handle_accept}
use Rattle.hnsr_circuit.specs.Data.{bytes_answer, flow_answer, with_data, data_message, data_taken, data_with, handle_data}
use Rattle.hnsr_circuit.specs.Window.{credit_answer, with_window, window_taken, window_with, handle_window}
use Rattle.hnsr_circuit.specs.Revocation.{without_actions, without_pending, end_pending, end_circuit, end_pending_there, end_circuit_there, error_to_requester, close_to_requester, close_to_endpoint, close_to, revoke_pending, revoke_circuit_there, revoke_circuit, where_reached, walk_from, walk, revoke_all}
use Rattle.hnsr_circuit.specs.Close.{detail_answer, close_answer, translated, close_taken, close_pending, close_circuit, handle_close}
use Rattle.hnsr_circuit.specs.Handle.{handling_of, dispatch, entry_answer, gate_answer, handle_gate, handle}
use Rattle.hnsr_circuit.specs.Acknowledge.{generation_answer, action_answer, lower_for, released, fail_pending, fail_incoming, undelivered, settled, acknowledge_taken, acknowledge_action, acknowledge}
use Rattle.hnsr_circuit.specs.RevokingCalls.{close_to_other, disconnect_pending, disconnect_peer, disconnect, revoke_under, revoke_reservation, expire_at, expire, change_answer, switch_to, replace_enabled}
use Rattle.hnsr_circuit.specs.New.{session_answer, new_answer, emptied, new_relay, observe_time}
use Rattle.hnsr_circuit.specs.Status.{status_of, action_capacity, status}
use Rattle.hnsr_circuit.specs.NextDue.{due_turn, due_of, next_due}
use Rattle.hnsr_circuit.specs.Call.{start, step, steps, run_after, run, left_by}
use Rattle.hnsr_circuit.specs.Code.Question.{pending_revoked, circuit_revoked, pending_work, circuit_work}
use Rattle.hnsr_circuit.specs.Code.Turns.{actions_scanned, tally_turn}
use Rattle.hnsr_circuit.specs.Code.Progress.{filled_to, placed}
use Rattle.hnsr_circuit.specs.Code.Plans.{data_planned, window_planned, close_planned}
use Rattle.hnsr_circuit.specs.Code.Opening.{accept_named, open_drawn}
use Rattle.hnsr_circuit.specs.Code.Revoking.{pending_closings, circuit_closings, ending_pending}

unfoldable pub machine : World → Start → List Call → List Outcome
unfolding le le_bytes be_from be_bytes all_zero padded words_of bytes_of fold_from utf8_1 utf8_2 utf8_3 utf8_4 utf8 walked laid_out stepped fetched left open_fields open_good decode_open open_bytes encode_open incoming_fields incoming_good decode_incoming incoming_bytes encode_incoming accept_fields accept_good decode_accept accept_bytes encode_accept opened_fields opened_good decode_opened opened_bytes encode_opened data_checked window_fields decode_window window_bytes encode_window reason_detail decode_detail detail_bytes encode_detail message_of notice_body notice_written packet_checked next within_limits config_good validate_config peer_of peer_bytes same_bytes same_peer is_pending pending_at pending_of pending_under requested_by named_by pending_over is_circuit circuit_at circuit_of circuit_under circuit_over side_of queued_in is_usage usage_at usage_over lapsed booked ledger_answer usage_answer kind_of is_action action_at action_under action_toward dropped tallied capacity_left capacity_answer peer_words packet_words route_words out_words output proceed pending_count circuit_count peer_work reservation_work queue_answer can_queue queued send when tell_if tell too_few tables_short tables_answer room_answer peer_answer packet_answer clock_answer sender circuit_answer draws_from draws draw_all id_taken drawn draw_answer open_answer admission_answer endpoint_answer deadline_answer incoming_message with_open open_admitted open_placed open_booked open_granted open_lapsed handle_open request_answer accept_answer with_accept opened_message accept_taken accept_with handle_accept bytes_answer flow_answer with_data data_message data_taken data_with handle_data credit_answer with_window window_taken window_with handle_window without_actions without_pending end_pending end_circuit end_pending_there end_circuit_there error_to_requester close_to_requester close_to_endpoint close_to revoke_pending revoke_circuit_there revoke_circuit where_reached walk_from walk revoke_all detail_answer close_answer translated close_taken close_pending close_circuit handle_close handling_of dispatch entry_answer gate_answer handle_gate handle generation_answer action_answer lower_for released fail_pending fail_incoming undelivered settled acknowledge_taken acknowledge_action acknowledge close_to_other disconnect_pending disconnect_peer disconnect revoke_under revoke_reservation expire_at expire change_answer switch_to replace_enabled session_answer new_answer emptied new_relay observe_time status_of action_capacity status due_turn due_of next_due start step steps run_after run left_by pending_revoked circuit_revoked pending_work circuit_work actions_scanned tally_turn filled_to placed data_planned window_planned close_planned accept_named open_drawn pending_closings circuit_closings ending_pending
machine w s calls = run w s calls
