-- What it says of lent memory that a job was made.
use Rattle.std.proofs.Common.{ℕ, ◌≡◌, ◌≤◌, sym, List}
use Rattle.refusal.specs.Outcome.Outcome.{accepted}
use Rattle.shape.specs.Rules.{area}
use Rattle.shape.specs.declared.Shape.{Shape}
use Rattle.filter.specs.declared.Engine.{Engine}
use Rattle.filter.specs.declared.job.Job.{Job}
use Rattle.filter.specs.Calls.{need, filter_due}
use Rattle.filter.specs.Job.{IsJobOf}
use Rattle.filter.proofs.CallLaws.{IsTestedImage, call-tested}

-- A job that `Job::new` made, for so many numbers of output and of work memory.
module _ {e : Engine} {s : Shape} {first end : ℕ} {image : List ℕ} (output work : ℕ) {job : Job}
    (passed : accepted tt ≡ filter_due e s first end image output work)
    (is : IsJobOf e s first end image job) where
  -- what its tests say
  tested : IsTestedImage s (need e s) first end image output work
  tested = call-tested e s first end image output work (sym passed)

  -- so much output is enough to run it
  pub job-output_room : area job.image.shape ≤ output
  job-output_room = rw is.shape tested.output-room

  -- and so much work memory
  pub job-work_room : need job.engine job.image.shape ≤ work
  job-work_room = rw (is.engine, is.shape) tested.work-room
