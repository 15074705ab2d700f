-- The job was made, so output and work memory are long enough.
use Rattle.filter.proofs.JobLaws.{job-output_room, job-work_room}
use Rattle.filter.proofs.run.Goals as goal

pub run-requires-clause-output_room : goal.run-requires-clause-output_room
run-requires-clause-output_room c =
    job-output_room _ _ c.in_ok-new.ensures.answer c.in_ok-new.ensures.job

pub run-requires-clause-work_room : goal.run-requires-clause-work_room
run-requires-clause-work_room c =
    job-work_room _ _ c.in_ok-new.ensures.answer c.in_ok-new.ensures.job
