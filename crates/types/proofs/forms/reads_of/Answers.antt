-- `types::forms::reads_of` meets its contract, variant by variant. Assumes nothing.
use Rattle.types.proofs.FormOf.{reads_told}
use Rattle.types.proofs.forms.reads_of.Goals as goal

pub returns-in-Ellipsis : goal.returns-in-Ellipsis
returns-in-Ellipsis c = search reads_told

pub returns-in-Path : goal.returns-in-Path
returns-in-Path c = search reads_told

pub returns-in-Index : goal.returns-in-Index
returns-in-Index c = search reads_told

pub returns-in-Index2 : goal.returns-in-Index2
returns-in-Index2 c = search reads_told

pub returns-in-List : goal.returns-in-List
returns-in-List c = search reads_told

pub returns-in-Union : goal.returns-in-Union
returns-in-Union c = search reads_told

pub returns-in-Tuple : goal.returns-in-Tuple
returns-in-Tuple c = search reads_told

pub returns-in-Other : goal.returns-in-Other
returns-in-Other c = search reads_told
