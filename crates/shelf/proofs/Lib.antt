mod TableLemmas
mod ShelfLemmas
