-- `parameters::answer` meets its contract: the counts, or the refusal. Assumes nothing.
use Rattle.parameters.proofs.Job.{accepted_small, accepted_answer, refused_small, refused_answer}
use Rattle.parameters.proofs.answer.Goals as goal

pub numbered-requires : goal.numbered-requires
numbered-requires c = search accepted_small

pub refusal-requires : goal.refusal-requires
refusal-requires c = search refused_small

pub returns-in-Ok : goal.returns-in-Ok
returns-in-Ok c = search accepted_answer

pub returns-in-Err : goal.returns-in-Err
returns-in-Err c = search refused_answer
