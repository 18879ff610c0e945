use denote.Param.Send.{param_send, arg_send}
use Rattle.am_keeper_files.proofs.Crossing.{file_keeper_send}
use Rattle.am.proofs.main.Goals as goal

pub run_keyed-requires-send-T-Kept : goal.run_keyed-requires-send-T-Kept
run_keyed-requires-send-T-Kept c κs = search (file_keeper_send, param_send, arg_send)
