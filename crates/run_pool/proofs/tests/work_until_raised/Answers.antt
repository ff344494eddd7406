use Rattle.std.proofs.Crossing.{sync}
use Rattle.std.proofs.Common.{rules}
use denote.Exit.{no}
use denote.Param.Send.{IsSync, arg_send, mut_send, param_send, param_sync, shr_send}
use Rattle.run_gate.proofs.gate.Gate.TheSendSync as gate
use Rattle.run_gate.proofs.seat.Seat.TheSendSync as seat
use Rattle.run_pool.proofs.Crossing.{job_sync, pass_send, results_sync, seven_send}
use Rattle.run_pool.proofs.tests.work_until_raised.Goals as goal

-- what the worker's closure holds that is sent: its seat and pass, and references to the rest
pub join_mut-why-requires-send-F : goal.join_mut-why-requires-send-F
join_mut-why-requires-send-F g c κs within =
    let r : IsSync g.row.R = search rules parts 8 in
    param_send 1 _ (arg_send _ no _ (seven_send _ _ _ _ _ _ _ _ (shr_send _ _ _ (param_sync 0 _ r)) (shr_send _ _ _ sync) (shr_send _ _ _ job_sync)
    (shr_send _ _ _ gate.the_sync) (mut_send _ _ _ seat.the_send) (shr_send _ _ _ results_sync) (mut_send _ _ _ pass_send)))
