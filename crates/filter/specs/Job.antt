-- What a job holds, which is what a filter call is given: SPECIFICATION, "Filters".
use Rattle.std.specs.Prelude.{ℕ, ◌≡◌, List}
use Rattle.shape.specs.declared.Shape.{Shape}
use Rattle.filter.specs.declared.Engine.{Engine}
use Rattle.filter.specs.declared.job.Job.{Job}

-- the job of an engine for the rows from `from` up to `upto` of an image
pub record IsJobOf (e : Engine) (s : Shape) (from upto : ℕ) (image : List ℕ)
    (job : Job) : Type 0 where
  pub engine : job.engine ≡ e
  pub shape : job.image.shape ≡ s
  pub readings : job.image.readings.now ≡ image
  pub first : job.first ≡ from
  pub end : job.end ≡ upto
