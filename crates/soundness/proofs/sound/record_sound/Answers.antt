-- `soundness::sound::record_sound` meets its contract: each test is one part of the record's rule. Assumes nothing.
use Rattle.soundness.proofs.Records.{whole_start, whole_end, record_fields, record_size, record_kids}
use Rattle.soundness.proofs.sound.record_sound.Goals as goal

pub returns-then-not-fields_sound : goal.returns-then-not-fields_sound
returns-then-not-fields_sound c = search record_fields

pub returns-then-not-whole : goal.returns-then-not-whole
returns-then-not-whole c = search record_size

pub slice_bounds-kids_sound-count : goal.slice_bounds-kids_sound-count
slice_bounds-kids_sound-count c = search whole_start

pub slice_bounds-kids_sound-start : goal.slice_bounds-kids_sound-start
slice_bounds-kids_sound-start c = search whole_start

pub slice_bounds-kids_sound-end : goal.slice_bounds-kids_sound-end
slice_bounds-kids_sound-end c = search whole_end

pub returns : goal.returns
returns c = search record_kids
