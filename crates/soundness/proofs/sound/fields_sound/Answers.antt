-- `soundness::sound::fields_sound` meets its contract: it is the definition, test by test. Assumes nothing.
use Rattle.soundness.specs.Sound.{fields_sound}
use borrow.Author.Rules.{rules}
use Rattle.soundness.proofs.sound.fields_sound.Goals as goal

pub kind-kind-requires : goal.kind-kind-requires
unfolding fields_sound
kind-kind-requires c = search rules

pub name_len-len-requires : goal.name_len-len-requires
unfolding fields_sound
name_len-len-requires c = search rules

pub class-classed-requires : goal.class-classed-requires
unfolding fields_sound
class-classed-requires c = search rules

pub detail-requires : goal.detail-requires
unfolding fields_sound
detail-requires c = search rules

pub details-requires : goal.details-requires
unfolding fields_sound
details-requires c = search rules

pub named-requires : goal.named-requires
unfolding fields_sound
named-requires c = search rules

pub name_start-requires : goal.name_start-requires
unfolding fields_sound
name_start-requires c = search rules

pub name_sound-named-requires : goal.name_sound-named-requires
unfolding fields_sound
name_sound-named-requires c = search rules

pub begin-requires : goal.begin-requires
unfolding fields_sound
begin-requires c = search rules

pub stop-requires : goal.stop-requires
unfolding fields_sound
stop-requires c = search rules

pub span_sound-spanned-requires : goal.span_sound-spanned-requires
unfolding fields_sound
span_sound-spanned-requires c = search rules

pub file-requires : goal.file-requires
unfolding fields_sound
file-requires c = search rules

pub file_sound-filed-requires : goal.file_sound-filed-requires
unfolding fields_sound
file_sound-filed-requires c = search rules

pub source-requires : goal.source-requires
unfolding fields_sound
source-requires c = search rules

pub source_sound-sourced-requires : goal.source_sound-sourced-requires
unfolding fields_sound
source_sound-sourced-requires c = search rules

pub returns : goal.returns
unfolding fields_sound
returns c = cc
