use Rattle.apply.proofs.RoomLaws.{job_call}
use Rattle.std.proofs.Common.{rules}
use Rattle.apply.proofs.buffers.serve_large.Goals as goal

pub call_rest-requires : goal.call_rest-requires
call_rest-requires g c = record {
  l_value = job_call c.requires c.in-Call.is;
  longest_of_all_in_bounds = search rules;
  ample = search rules;
}
