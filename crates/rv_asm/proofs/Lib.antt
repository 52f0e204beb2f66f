mod Tables
mod Marks
mod Growth
mod Instrs
mod Lands
