-- `filepass::edition_refused` meets its contract: 1 to 4, or 5. Assumes nothing.
use Rattle.filepass.proofs.Listing.{refused_sound, refused_unsound}
use Rattle.filepass.proofs.edition_refused.Goals as goal

pub returns-in-Ok : goal.returns-in-Ok
returns-in-Ok c = search refused_sound

pub returns-in-Err : goal.returns-in-Err
returns-in-Err c = search refused_unsound
