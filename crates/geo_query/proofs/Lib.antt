mod Accepted
mod BoxTexts
mod Codes
