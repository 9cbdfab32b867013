mod TestedLists
mod Unions
mod Repeats
mod RangeUnions
mod FileAnswers
